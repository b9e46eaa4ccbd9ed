use Rattle.std.proofs.Common.{sym, subst}
use Rattle.ps_bench_trials.specs.Plain.{ArePlain}
use Rattle.ps_bench_trials.proofs.Plain.{put_plain}
use Rattle.ps_bench_trials.proofs.reading.put_line.Goals as goal

pub returns-in-Some : goal.returns-in-Some
returns-in-Some c = λ plain.
    subst ArePlain (sym c.put.ensures) (put_plain c.args.tally.now c.args.place c.in-Some.line.what plain c.in-Some.ensures)
