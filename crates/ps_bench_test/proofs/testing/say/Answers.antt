use Rattle.std.proofs.Common.{Err, refl, ap, ◌∙◌}
use Rattle.std.proofs.lemmas.Result.{err_from_is_err_and}
use Rattle.ps_bench_frame.proofs.Stopped.{took_part}
use Rattle.ps_bench_test.proofs.Stopped.{err_is}
use Rattle.ps_bench_test.proofs.testing.say.Goals as goal

pub returns-in_err-write_all-clause-stops : goal.returns-in_err-write_all-clause-stops
returns-in_err-write_all-clause-stops g c =
    let p = err_from_is_err_and c.from_residual.result c.from_residual.ensures.1 in
    err_is _ c.from_residual.result _ (p.1 ∙ ap Err p.2)
    (took_part (g.O.Sink.tells c.args.out.now) c.in_err-write_all.field-0.0.taken (g.O.Sink.taken c.args.out.now) c.args.text.now
    c.args.text.now (g.O.Sink.taken c.write_all.new.out) refl c.in_err-write_all.ensures.part)
