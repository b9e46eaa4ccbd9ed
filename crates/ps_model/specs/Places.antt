-- What holds of the sizes of an application.
use Rattle.std.specs.Prelude.{◌≡◌, ℕ, ◌+◌, ◌<◌, ◌≤◌, List, length, slice_index_or}
use Rattle.ps_model.specs.declared.kind.Kind.{Kind}
use Rattle.ps_model.specs.declared.kind.Kind.TheVariants.{Equivalent}
use Rattle.ps_model.specs.Blocks.{output_count}

-- there is a first pin and a kind for each instance, and all inputs, outputs and pin outputs are signals
pub record ArePlaces (signals instances inputs outputs : ℕ) (first_pins : List ℕ) (kinds : List Kind) : Type 0 where
  pub first_pin_each : length first_pins ≡ instances
  pub kind_each : length kinds ≡ instances
  pub declared : inputs + outputs ≤ signals
  pub pin_outputs : (i : ℕ) → i < instances → slice_index_or first_pins i 0 + output_count (slice_index_or kinds i Equivalent) ≤ signals
