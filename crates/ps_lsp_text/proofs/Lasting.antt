-- The last of the changes that a message gives.
use Rattle.std.proofs.Common.{◌≡◌, ◌∙◌, ◌-◌, suc, List, [], ◌∷◌, Option, Some, None, Bor, ap, arith, length, map, refl}
use Rattle.std.specs.Prelude.{option_copied, option_map, slice_get}
use Rattle.serde_json.specs.View.{items_of, view}
use Rattle.serde_json.specs.declared.value.Value.{Value}
use Rattle.ps_lsp_text.specs.Asking.{last_item}

-- the last of a list that begins with a value
last_after : (value : Value) (more : List Value) →
    option_map view (slice_get (value ∷ more) (length more)) ≡ last_item (items_of (map view (value ∷ more)))
last_after value [] = refl
last_after value (next ∷ more) = last_after next more

-- the last of a list of values is the last of its items
last_seen : (values : List Value) → option_map view (slice_get values (length values - 1)) ≡ last_item (items_of (map view values))
last_seen [] = refl
last_seen (value ∷ more) =
    let one : suc (length more) - 1 ≡ length more = omega arith in
    ap (λ n. option_map view (slice_get (value ∷ more) n)) one ∙ last_after value more

-- the same of what a slice gives
pub last_given : (given : Option (Bor Value)) (values : List Value) → option_copied given ≡ slice_get values (length values - 1) →
    option_map (λ v. view v.now) given ≡ last_item (items_of (map view values))
last_given None values same = ap (option_map view) same ∙ last_seen values
last_given (Some value) values same = ap (option_map view) same ∙ last_seen values
