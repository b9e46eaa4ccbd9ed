use Rattle.ps_bench_cases.proofs.HeaderBack.{header_back, values_back}
use Rattle.ps_bench_cases.proofs.laws.header_is_read.Goals as goal

pub returns-clause-places : goal.returns-clause-places
returns-clause-places c = header_back

pub returns-clause-values : goal.returns-clause-values
returns-clause-values c = values_back
