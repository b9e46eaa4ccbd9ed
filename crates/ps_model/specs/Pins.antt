-- The pins of a kind with their numbers, and how they are found by name.
use Rattle.std.specs.Prelude.{◌≡◌, ℕ, true, false, List, Some, slice_get, [], ◌∷◌, ◌++◌, map, codes, length}
use Rattle.ps_base.specs.LetterCase.{SameName}
use Rattle.ps_model.specs.declared.kind.Kind.{Kind}
use Rattle.ps_model.specs.declared.kind.Ty.{Ty}
use Rattle.ps_model.specs.declared.kind.Ty.TheVariants.{Safe, Bool as Plain}
use Rattle.ps_model.specs.declared.pins.PinRow.{PinRow}
use Rattle.ps_model.specs.Blocks.{Pin, Output, block}

-- The pins of a kind in order: the input pins, of which a TIME pin is the last, the safe outputs, Ready and Error.
abbrev pub pin_names : Kind → List (List ℕ)
pin_names kind = map (λ (p : Pin). p.name) (block kind).inputs ++ (map (λ (o : Output). o.name) (block kind).outputs ++ (codes "Ready" ∷ codes "Error" ∷ []))

-- The row of an input pin.
abbrev pub input_row : Pin → PinRow
input_row p = record { ty = p.ty; is_input = true; free = p.free }

-- The row of an output of this type.
abbrev pub output_row : Ty → PinRow
output_row ty = record { ty = ty; is_input = false; free = false }

-- The rows of the same pins: a safe output is SAFEBOOL, Ready and Error are BOOL.
abbrev pub pin_rows : Kind → List PinRow
pin_rows kind = map input_row (block kind).inputs ++ (map (λ (o : Output). output_row Safe) (block kind).outputs ++ (output_row Plain ∷ output_row Plain ∷ []))

-- How many pins a kind has.
abbrev pub pin_count : Kind → ℕ
pin_count kind = length (pin_names kind)

-- Pin j of the kind has this name.
pub record IsNamed (kind : Kind) (name : List ℕ) (j : ℕ) : Type 0 where
  pub spelt : List ℕ
  pub at : slice_get (pin_names kind) j ≡ Some spelt
  pub same : SameName spelt name
