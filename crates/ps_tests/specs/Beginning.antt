-- What a test asks of the world of an application at the beginning.
use Rattle.std.specs.Prelude.{◌≡◌, false, length}
use Rattle.ps_model.specs.Network.{Network, input_count, instance_count}
use Rattle.ps_world.specs.Whole.{Whole}

-- The world has the application's numbers of inputs, outputs and instances, and no scan came or is begun.
pub record IsBeginning (net : Network) (w : Whole) : Type 0 where
  pub inputs : w.setup.sizes.inputs ≡ input_count net
  pub outputs : w.setup.sizes.outputs ≡ length net.outputs
  pub instances : w.setup.sizes.instances ≡ instance_count net
  pub last : w.state.last ≡ 0
  pub rest : w.state.begun ≡ false
