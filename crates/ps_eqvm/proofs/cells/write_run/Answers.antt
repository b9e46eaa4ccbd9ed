use Rattle.std.proofs.Common.{◌≡◌, length, arith}
use Rattle.ps_eqvm.proofs.Runs.{run_cells, run_written, run_clear}
use Rattle.ps_eqvm.proofs.cells.write_run.Goals as goal

pub returns-clause-cells : goal.returns-clause-cells
returns-clause-cells c =
    let a = c.args in
    let size : length c.place_run-2.new.words ≡ length a.value.now = omega arith in
    let size' : length c.place_run.new.words ≡ length a.odd.now = omega arith in
    run_cells a.value.now c.place_run-2.new.words a.odd.now c.place_run.new.words a.counted.now a.i a.count a.number c.requires.cells c.requires.room size size'
    c.place_run-2.ensures.inside c.place_run-2.ensures.outside c.place_run.ensures.inside c.place_run.ensures.outside

pub returns-clause-written : goal.returns-clause-written
returns-clause-written c =
    let a = c.args in
    let size : length c.place_run-2.new.words ≡ length a.value.now = omega arith in
    let size' : length c.place_run.new.words ≡ length a.odd.now = omega arith in
    run_written a.value.now c.place_run-2.new.words a.odd.now c.place_run.new.words a.counted.now a.i a.count a.number c.requires.cells c.requires.room size size'
    c.place_run-2.ensures.inside c.place_run-2.ensures.outside c.place_run.ensures.inside c.place_run.ensures.outside

pub returns-clause-even : goal.returns-clause-even
returns-clause-even c = λ clear. run_clear c.args.odd.now c.place_run.new.words c.args.i c.args.count c.place_run.ensures.inside c.place_run.ensures.outside clear
