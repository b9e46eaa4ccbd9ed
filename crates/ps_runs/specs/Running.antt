-- What the items of a trace are done with.
use Rattle.std.specs.Prelude.{◌≡◌, ◌≤◌, ◌<◌, false, All, None, take, length}
use Rattle.ps_model.specs.Network.{Network, input_count, instance_count}
use Rattle.ps_trace.specs.FaultOrder.{AreInOrder, AreOfOneChannel}
use Rattle.ps_world.specs.Whole.{IsWorldOf}
use Rattle.ps_runs.specs.Performing.{to_come}
use Rattle.ps_runs.specs.declared.items.Runner.{Runner}
use Rattle.ps_runs.specs.declared.striking.StruckWorld.{StruckWorld}

-- a runner has the application's sizes
pub record Fits {P T : Type 0} (performer_fits : P → Type 0) (taker_fits : T → Type 0) (net : Network)
    (runner : Runner P T) : Type 0 where
  pub performer : performer_fits runner.performer
  pub taker : taker_fits runner.taker
  pub inputs : length runner.scan.ins ≡ input_count net
  pub outputs : length runner.report.outs ≡ length net.outputs
  pub diagnoses : length runner.report.diags ≡ instance_count net

-- A run is at its beginning: its world is that of the application, no scan was made, and its faults come in order and
-- strike one channel. Those of a scan 0 are passed over.
pub record IsBeginning (net : Network) (p : StruckWorld) : Type 0 where
  pub world : IsWorldOf net p.world
  pub none_made : p.scans ≡ 0
  pub none_tripped : p.tripped ≡ false
  pub no_trip : p.trip ≡ None
  pub ordered : AreInOrder p.faults
  pub one_channel : AreOfOneChannel p.faults
  pub within : p.next ≤ length p.faults
  pub passed_over : All (λ f. f.scan ≤ 0) (take p.next p.faults)
  pub later : All (λ f. 0 < f.scan) (to_come p)
