use Rattle.std.proofs.Common.{◌≡◌, ◌∙◌, ◌++◌, sym, subst}
use Rattle.std.proofs.lemmas.Result.{on_ok_weaker}
use Rattle.ps_bench_cases.specs.Meant.{set_by}
use Rattle.ps_bench_judge.specs.declared.rig.Rig.{Rig}
use Rattle.ps_bench_judge.specs.CaseRuns.{tasks_by}
use Rattle.ps_bench_judge.specs.Rigs.{Goes, IsRigFor}
use Rattle.ps_bench_judge.proofs.Going.{goes_set}
use Rattle.ps_bench_judge.proofs.Turns.{fits_set, length-set_by}
use Rattle.ps_bench_judge.proofs.run.do_statement.Goals as goal

pub do_act-requires-clause-fits : goal.do_act-requires-clause-fits
do_act-requires-clause-fits c =
    let ins = c.args.rig.now.scan.ins in
    subst (λ (r : Rig). IsRigFor c.args.app.now r) (sym c.set.ensures)
    (fits_set c.args.app.now c.args.rig.now (set_by ins c.as_slice.result.now) (length-set_by ins c.as_slice.result.now) c.requires.fits)

pub returns-clause-goes : goal.returns-clause-goes
returns-clause-goes c =
    let net = c.args.app.now in
    let rig = c.args.rig.now in
    let s = c.args.statement.now in
    let set : Rig = record rig { scan = record { now = rig.scan.now; ins = set_by rig.scan.ins s.settings } } in
    let set_is : c.set.new.self ≡ set =
    c.set.ensures ∙ (λ i. record rig { scan = record { now = rig.scan.now; ins = set_by rig.scan.ins (c.as_slice.ensures i) } }) in
    on_ok_weaker c.do_act.result
    (λ goes later. goes_set net (tasks_by s.line (set_by rig.scan.ins s.settings) s.act ++ later) rig (set_by rig.scan.ins s.settings) c.args.judge.now later c.do_act.new.rig c.do_act.new.judge
    (subst (λ (r : Rig). Goes net (tasks_by s.line r.scan.ins s.act ++ later) r c.args.judge.now later c.do_act.new.rig c.do_act.new.judge) set_is (goes later)))
    c.do_act.ensures.goes
