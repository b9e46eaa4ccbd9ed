-- The rows of the input pins stand first in a kind's pin table.
use Rattle.std.proofs.Common.{◌≡◌, ℕ, suc, zero, ◌+◌, ◌<◌, ◌≤◌, List, [], ◌∷◌, ◌++◌, length, map, Some, refl, arith, length-append}
use Rattle.std.specs.Prelude.{slice_get, slice_index_or, codes}
use Rattle.std.proofs.lemmas.List.{length-map}
use Rattle.ps_model.specs.declared.kind.Kind.{Kind}
use Rattle.ps_model.specs.declared.pins.PinRow.{PinRow}
use Rattle.ps_model.specs.Blocks.{Pin, Output, block}
use Rattle.ps_model.specs.Pins.{pin_count, pin_rows, input_row}
use Rattle.ps_model.specs.Scanning.{pin_at, no_pin}

first_rows : (pins : List Pin) (more : List PinRow) (j : ℕ) → j < length pins →
    slice_get (map input_row pins ++ more) j ≡ Some (input_row (slice_index_or pins j no_pin))
first_rows [] more j h = absurd (omega arith)
first_rows (p ∷ pins) more zero h = refl
first_rows (p ∷ pins) more (suc j) h = first_rows pins more j (omega arith)

pub row_of_input : (kind : Kind) (j : ℕ) → j < length (block kind).inputs → slice_get (pin_rows kind) j ≡ Some (input_row (pin_at kind j))
row_of_input kind j h = first_rows (block kind).inputs _ j h

pub inputs_first : (kind : Kind) → length (block kind).inputs ≤ pin_count kind
inputs_first kind =
    let names : List (List ℕ) = map (λ (p : Pin). p.name) (block kind).inputs in
    let more : List (List ℕ) = map (λ (o : Output). o.name) (block kind).outputs ++ (codes "Ready" ∷ codes "Error" ∷ []) in
    let all : length (names ++ more) ≡ length names + length more = length-append names more in
    let some : length names ≡ length (block kind).inputs = length-map (block kind).inputs (λ (p : Pin). p.name) in
    let least : length (block kind).inputs ≤ length (names ++ more) = omega arith in
    least
