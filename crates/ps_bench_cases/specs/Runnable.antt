-- When a case can be run.
use Rattle.std.specs.Prelude.{◌<◌, List, ◌∷◌, All}
use Rattle.std.specs.List.Sorted.{IsNonDecreasing}
use Rattle.ps_model.specs.Network.{Network, input_count}
use Rattle.ps_trace.specs.FaultOrder.{AreInOrder, AreOfOneChannel}
use Rattle.ps_bench_names.specs.declared.name.Setting.{Setting}
use Rattle.ps_bench_cases.specs.declared.case.Statement.{Statement}
use Rattle.ps_bench_cases.specs.Meant.{faults_in, times_in}

-- A case can be run: its faults come in order and strike one channel, its times do not fall, and its settings are of
-- inputs.
pub record IsRunnable (net : Network) (statements : List Statement) : Type 0 where
  pub ordered : AreInOrder (faults_in statements)
  pub one_channel : AreOfOneChannel (faults_in statements)
  pub rising : IsNonDecreasing (0 ∷ times_in statements)
  pub inputs : All (λ (s : Statement). All (λ (set : Setting). set.input < input_count net) s.settings) statements
