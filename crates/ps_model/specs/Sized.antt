-- The sizes of an application.
use Rattle.std.specs.Prelude.{◌≡◌, length, map}
use Rattle.std.specs.List.{range_with_len}
use Rattle.ps_model.specs.declared.sizes.Sizes.{Sizes}
use Rattle.ps_model.specs.Network.{Network, signal_count, instance_count, input_count, first_pin}

-- these are the sizes of the application
pub record AreSizesOf (net : Network) (sizes : Sizes) : Type 0 where
  pub signals : sizes.signals ≡ signal_count net
  pub instances : sizes.instances ≡ instance_count net
  pub inputs : sizes.inputs ≡ input_count net
  pub outputs : sizes.outputs ≡ length net.outputs
  pub first_pins : sizes.first_pins ≡ map (first_pin net) (range_with_len 0 (instance_count net))
  pub kinds : sizes.kinds ≡ map (λ x. x.kind) net.instances
