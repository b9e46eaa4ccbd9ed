use Rattle.std.proofs.Common.{◌≡◌, ℕ, ◌∷◌, sym, ap, subst}
use Rattle.std.proofs.lemmas.Result.{on_ok_weaker}
use Rattle.ps_bench_judge.specs.Holding.{AreFrom, moments, scanned}
use Rattle.ps_bench_judge.specs.Moments.{Moment}
use Rattle.ps_bench_judge.specs.Owing.{owed}
use Rattle.ps_bench_judge.proofs.Going.{goes_scan}
use Rattle.ps_bench_judge.proofs.run.make_scan.Goals as goal

pub returns-clause-goes : goal.returns-clause-goes
returns-clause-goes c =
    let net = c.args.app.now in
    on_ok_weaker c.scan.result
    (λ step later. goes_scan net c.sound.ensures c.args.line c.args.now c.args.rig.now c.make_scan.new.self c.args.judge.now c.scan.new.self c.make_scan.ensures.makes
    (λ p m events from. subst (λ (n : Moment). owed net p c.args.judge.now m (scanned c.args.line n ∷ events) ≡ owed net p c.scan.new.self n events) c.seen.ensures
    (step p m events (subst (λ (t : ℕ). AreFrom t (moments events)) (sym (ap (λ (n : Moment). n.now) c.seen.ensures)) from)))
    later)
    c.scan.ensures
