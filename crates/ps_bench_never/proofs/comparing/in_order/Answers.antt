use Rattle.std.proofs.Common.{refl}
use Rattle.ps_bench_never.proofs.comparing.in_order.Goals as goal

pub returns-in-Ok-clause-ordered : goal.returns-in-Ok-clause-ordered
returns-in-Ok-clause-ordered c = (c.in-Ok.ordered, c.in-Ok.ensures, refl)
