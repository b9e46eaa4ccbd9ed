use Rattle.ps_bench_never.proofs.Naming.{named_differs}
use Rattle.ps_bench_never.proofs.same_laws.the_named_output_differs.Goals as goal

pub returns : goal.returns
returns c = named_differs
