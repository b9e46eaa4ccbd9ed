-- The free values of a kind's pins by its entry.
use Rattle.std.proofs.Common.{◌≡◌, ℕ, ◌<◌, false, sym, ap, ◌∙◌, get_or, arith, length}
use Rattle.std.proofs.lemmas.List.{get_or-map}
use Rattle.std.proofs.lemmas.List.FromFn.{get_or-map-range_with_len}
use Rattle.ps_model.specs.declared.kind.Kind.{Kind}
use Rattle.ps_model.specs.Blocks.{Pin, block}
use Rattle.ps_model.specs.Scanning.{pin_at, no_pin}
use Rattle.ps_rows.specs.declared.kinds.KindEntry.{KindEntry}
use Rattle.ps_model.specs.PinBits.{pin_of}
use Rattle.ps_rows.specs.Kinds.{IsEntryOf}

pub free_pin_is : (kind : Kind) (entry : KindEntry) (j : ℕ) → IsEntryOf kind entry → j < length (block kind).inputs → pin_of entry.free_pins j ≡ (pin_at kind j).free
free_pin_is kind entry j is low =
    let n = length (block kind).inputs in
    sym (get_or-map-range_with_len (pin_of entry.free_pins) 0 n j j false low (omega arith))
    ∙ ap (λ l. get_or l j false) is.free_pins
    ∙ get_or-map (λ (p : Pin). p.free) (block kind).inputs j no_pin false low
