use Rattle.std.proofs.Common.{◌≡◌}
use Rattle.ps_bench_frame.specs.declared.ending.Input.TheVariants.{Faults, Trace}
use Rattle.ps_bench_frame.specs.declared.ending.InputStop.TheVariants.{Refused}
use Rattle.ps_bench_frame.specs.declared.ending.Stop.TheVariants.{Input}
use Rattle.ps_bench_watch.proofs.watching.faults_named.Goals as goal

pub returns-in-Some-clause-of_faults : goal.returns-in-Some-clause-of_faults
returns-in-Some-clause-of_faults g c = λ refusal is.
    let stop_is : c.end_without.result ≡ Input (Refused Trace refusal) = cc in
    let same : Trace ≡ Faults = c.end_without.ensures.of_input Trace refusal stop_is in
    cc
