-- Where the instances say what they say of themselves.
use Rattle.std.specs.Prelude.{◌≡◌, ℕ, ◌+◌, ◌<◌, List, length, slice_index, slice_index_or}
use Rattle.ps_model.specs.declared.kind.Kind.TheVariants.{Equivalent}
use Rattle.ps_model.specs.declared.sizes.Sizes.{Sizes}
use Rattle.ps_model.specs.Blocks.{output_count}

-- Of each instance the signal of its Ready: it and Error, the one after it, are the last two of its outputs.
pub record AreReadies (z : Sizes) (readies : List ℕ) : Type 0 where
  pub count : length readies ≡ z.instances
  pub each : (i : ℕ) → i < z.instances → slice_index readies i + 2 ≡ slice_index_or z.first_pins i 0 + output_count (slice_index_or z.kinds i Equivalent)
