use Rattle.ps_bench_never.proofs.Pacing.{paced_ends_meeting}
use Rattle.ps_bench_never.proofs.laws.a_case_is_of_any_times.Goals as goal

pub returns : goal.returns
returns c = paced_ends_meeting
