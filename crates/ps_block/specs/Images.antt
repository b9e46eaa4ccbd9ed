-- What sixteen bytes hold.
use Rattle.std.specs.Prelude.{◌≡◌, ℕ, ◌<◌, ◌^◌, true, List}
use Rattle.ps_model.specs.declared.kind.Kind.{Kind}
use Rattle.ps_model.specs.Blocks.{block}
use Rattle.ps_model.specs.Kept.{Kept}
use Rattle.ps_model.specs.Stored.{bit, stored, is_last, is_mode}
use Rattle.ps_block.specs.declared.image.Image.{Image}

-- What the image keeps.
abbrev pub kept_of : Image → Kept
kept_of i = record { code = i.code; last_reset = i.last_reset; last_auxiliary = i.last_auxiliary; mode = i.mode; timer = i.time }

-- The image is stored in these bytes, and it has just what the kind keeps; only its code may be of no state.
pub record Reads (kind : Kind) (bytes : List ℕ) (i : Image) : Type 0 where
  pub bytes_are : bytes ≡ stored (kept_of i)
  pub last_reset : is_last (block kind).reset (bit i.last_reset) ≡ true
  pub last_auxiliary : is_last (block kind).auxiliary (bit i.last_auxiliary) ≡ true
  pub mode : is_mode kind i.code i.mode ≡ true
  pub code_fits : i.code < 2 ^ 16
  pub time_fits : i.time < 2 ^ 32
