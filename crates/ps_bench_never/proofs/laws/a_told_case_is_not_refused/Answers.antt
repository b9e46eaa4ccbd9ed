use Rattle.ps_bench_never.proofs.Accepted.{case_is_accepted, condition_is_read, difference_is_accepted, found_is_accepted}
use Rattle.ps_bench_never.proofs.laws.a_told_case_is_not_refused.Goals as goal

pub returns : goal.returns
returns c = record { conditions = condition_is_read; cases = case_is_accepted; found = found_is_accepted; differs = difference_is_accepted }
