use Rattle.ps_bench_never.proofs.Verdicts.{each_is_so, each_is_so_at_any_times, no_case_is_so}
use Rattle.ps_bench_never.proofs.laws.each_rule_is_as_told.Goals as goal

pub returns : goal.returns
returns c = record { paced = each_is_so; any = each_is_so_at_any_times; uncased = no_case_is_so }
