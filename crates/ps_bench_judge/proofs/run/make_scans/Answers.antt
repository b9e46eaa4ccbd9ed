use Rattle.std.proofs.Common.{◌∙◌, ◌+◌, ◌∷◌, ℕ, sym, ap, arith}
use Rattle.ps_bench_cases.specs.Meant.{times_of}
use Rattle.ps_bench_judge.proofs.Turns.{scan_due, scans_on, scans_done, times_left, times_left_more, times_left_none}
use Rattle.ps_bench_judge.proofs.run.make_scans.Goals as goal

pub make_scan-requires-clause-due : goal.make_scan-requires-clause-due
make_scan-requires-clause-due c =
    let pace = c.args.pace.now in
    let k = c.loop-k.k in
    scan_due c.args.app.now c.args.line (times_of pace) c.args.rig.now c.args.judge.now (times_left pace k) c.loop-k.rig c.loop-k.judge c.loop-k.invariant
    c.time_at.result (times_left pace (k + 1))
    (times_left_more pace k (omega arith) ∙ ap (λ (t : ℕ). t ∷ times_left pace (k + 1)) (sym c.time_at.ensures))

pub loop-k-preserved : goal.loop-k-preserved
loop-k-preserved c =
    let pace = c.args.pace.now in
    let k = c.loop-k.k in
    scans_on c.args.app.now c.args.line (times_of pace) c.args.rig.now c.args.judge.now (times_left pace k) c.loop-k.rig c.loop-k.judge c.loop-k.invariant
    c.time_at.result (times_left pace (k + 1)) c.make_scan.new.rig c.make_scan.new.judge
    (times_left_more pace k (omega arith) ∙ ap (λ (t : ℕ). t ∷ times_left pace (k + 1)) (sym c.time_at.ensures))
    c.in_ok-make_scan.ensures.fits c.in_ok-make_scan.ensures.scan c.in_ok-make_scan.ensures.goes

pub returns-clause-goes : goal.returns-clause-goes
returns-clause-goes c =
    let pace = c.args.pace.now in
    let k = c.loop-k.k in
    (scans_done c.args.app.now c.args.line (times_of pace) c.args.rig.now c.args.judge.now (times_left pace k) c.loop-k.rig c.loop-k.judge c.loop-k.invariant
    (times_left_none pace k (omega arith))).1
