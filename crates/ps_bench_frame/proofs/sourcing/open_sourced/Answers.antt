use Rattle.ps_bench_frame.proofs.Giving.{reads_err}
use Rattle.ps_bench_frame.proofs.sourcing.open_sourced.Goals as goal

pub returns-in-Err-clause-stops : goal.returns-in-Err-clause-stops
returns-in-Err-clause-stops g c =
    c.refuse_app.ensures.stops (g.F.Files.tells c.args.files.now) (g.F.Files.held c.args.files.now) c.args.name.now
    (λ tells. reads_err _ c.in-Err.why (c.in-Err.ensures.read tells))
