-- What a step answers.
use Rattle.std.specs.Prelude.{◌≡◌, ℕ, ◌<◌, ◌^◌, Bool, List, [], ◌∷◌, ◌++◌, length, map}
use Rattle.std.specs.List.{range_with_len}
use Rattle.ps_model.specs.declared.kind.Kind.{Kind}
use Rattle.ps_model.specs.Blocks.{block, outs, ready_in, error_in}
use Rattle.ps_model.specs.Kept.{Kept}
use Rattle.ps_block.specs.declared.block.Outs.{Outs}
use Rattle.ps_model.specs.PinBits.{pin_of}

-- The answer in the state with this code, with these safe outputs.
abbrev pub shown_in : ℕ → ℕ → Outs
shown_in code safe = record { safe = safe; diag = record { ready = ready_in code; error = error_in code; code = code } }

-- The first n safe outputs, Ready and Error.
abbrev pub shown : ℕ → Outs → List Bool
shown n o = map (pin_of o.safe) (range_with_len 0 n) ++ (o.diag.ready ∷ o.diag.error ∷ [])

-- The answer shows a kept state: its outputs are those of the state, no further bit is set, and the DiagCode is the
-- state's.
pub record Shows (kind : Kind) (o : Outs) (k : Kept) : Type 0 where
  pub outputs : shown (length (block kind).outputs) o ≡ outs kind k.code k.mode
  pub no_more : o.safe < 2 ^ length (block kind).outputs
  pub code : o.diag.code ≡ k.code
