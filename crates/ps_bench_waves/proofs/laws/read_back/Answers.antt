use Rattle.ps_bench_waves.proofs.Replay.{scans_back}
use Rattle.ps_bench_waves.proofs.laws.read_back.Goals as goal

pub returns : goal.returns
returns c = λ wires blank moments size readable. scans_back wires blank moments size readable
