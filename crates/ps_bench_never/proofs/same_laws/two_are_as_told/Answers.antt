use Rattle.ps_bench_never.proofs.Verdicts.{is_so_of_two}
use Rattle.ps_bench_never.proofs.same_laws.two_are_as_told.Goals as goal

pub returns : goal.returns
returns c = is_so_of_two
