use Rattle.ps_bench_waves.proofs.Declaring.{wire_back}
use Rattle.ps_bench_waves.proofs.laws.wires_are_declared.Goals as goal

pub returns : goal.returns
returns c = λ number wire rest some prints. wire_back number wire rest some prints
