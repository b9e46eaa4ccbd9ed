-- The outputs of a kind by their names.
use Rattle.std.proofs.Common.{◌≡◌, ℕ, ◌-◌, ◌<◌, ◌≤◌, Bool, true, false, not, List, [], ◌∷◌, ◌++◌, Option, None, Some, length, map, get_or, slice_get, nat_lt, refl, sym, ap, ◌∙◌, arith, length-append}
use Rattle.std.specs.Prelude.{unwrap_or, codes}
use Rattle.std.specs.Str.{bytes_eq}
use Rattle.std.proofs.lemmas.Bool.{false≢true, and_parts}
use Rattle.std.proofs.lemmas.Bool.Decides.{nat_tests}
use Rattle.std.proofs.lemmas.List.{length-map, get_or-append_right}
use Rattle.std.proofs.lemmas.List.Quantifiers.{position-Some}
use Rattle.std.proofs.lemmas.Option.{slice_get-get_or}
use Rattle.std.proofs.lemmas.Slice.Eq.{bytes_eq-Decides}
use Rattle.ps_base.specs.LetterCase.{folded, is_same_name}
use Rattle.ps_model.specs.declared.kind.Kind.{Kind}
use Rattle.ps_model.specs.Blocks.{Pin, Output, block, output_count}
use Rattle.ps_model.specs.Pins.{pin_names}
use Rattle.ps_model.proofs.OutputLengths.{output_count_is}
use Rattle.ps_parser.specs.declared.name.Name.{Name}
use Rattle.ps_names.specs.Rules.{pin_at, puts, has_output}
use Rattle.ps_names.specs.Stands.{output_at}
use Rattle.ps_names.proofs.Lookups.{position_first}
use Rattle.ps_names.proofs.PinNames.{differ, pins_differ, apart_at}
use Rattle.ps_language_laws.specs.Equations.{output_names}
use Rattle.ps_language_laws.specs.ByName.{output_numbered}

-- how many outputs a kind has
pub outputs_are : (kind : Kind) → length (output_names kind) ≡ output_count kind
outputs_are kind =
    let all = length-append (map (λ (o : Output). o.name) (block kind).outputs) (codes "Ready" ∷ codes "Error" ∷ []) in
    let safe = length-map (block kind).outputs (λ (o : Output). o.name) in
    let count = output_count_is kind in
    omega arith

-- ---- an output by its name

back_differs : (xs ys : List (List ℕ)) → differ (xs ++ ys) ≡ true → differ ys ≡ true
back_differs [] ys h = h
back_differs (x ∷ xs) ys h = back_differs xs ys (and_parts _ (differ (xs ++ ys)) h).1

-- they are numbered in the order of its table
pub output_is : (kind : Kind) (j : ℕ) (pin : List ℕ) → slice_get (output_names kind) j ≡ Some pin → output_numbered kind (folded pin) ≡ Some j
output_is kind j pin at =
    position_first (λ name. bytes_eq (folded pin) (folded name)) (output_names kind) j pin at ((bytes_eq-Decides (folded pin) (folded pin)).1 refl)
    (λ i y less there. other y (apart_at (output_names kind) i j y pin outputs_differ less there at) (bytes_eq (folded pin) (folded y)) refl)
  where
    outputs_differ : differ (output_names kind) ≡ true
    outputs_differ = back_differs (map (λ (p : Pin). p.name) (block kind).inputs) (output_names kind) (pins_differ kind)

    other : (y : List ℕ) → is_same_name y pin ≡ false → (b : Bool) → bytes_eq (folded pin) (folded y) ≡ b → b ≡ false
    other y apart true h =
        absurd (false≢true (sym apart ∙ (bytes_eq-Decides (folded y) (folded pin)).1 (sym ((bytes_eq-Decides (folded pin) (folded y)).0 h))))
    other y apart false h = refl

behind_inputs : (j m : ℕ) → not (nat_lt j m) ≡ true → m ≤ j
behind_inputs j m h = grind (arith, nat_tests)

-- an output that a kind has, by its name in a text
pub output_found : (kind : Kind) (q : Name) → has_output kind q ≡ true → (output_numbered kind (folded q.text) ≡ Some (output_at kind q)) × (output_at kind q < output_count kind)
output_found kind q h = by (pin_at kind q) refl h
  where
    by : (o : Option ℕ) → pin_at kind q ≡ o → puts kind o ≡ true →
        (output_numbered kind (folded q.text) ≡ Some (unwrap_or (pin_at kind q) 0 - length (block kind).inputs)) × (unwrap_or (pin_at kind q) 0 - length (block kind).inputs < output_count kind)
    by None e p = absurd (false≢true p)
    by (Some j) e p =
        let low = behind_inputs j (length (block kind).inputs) p in
        let found = position-Some (is_same_name q.text) (pin_names kind) j [] e in
        let high = found.0 in
        let all = length-append (map (λ (x : Pin). x.name) (block kind).inputs) (output_names kind) in
        let inputs = length-map (block kind).inputs (λ (x : Pin). x.name) in
        let count = outputs_are kind in
        let is : unwrap_or (pin_at kind q) 0 ≡ j = ap (λ o. unwrap_or o 0) e in
        let there = get_or-append_right (map (λ (x : Pin). x.name) (block kind).inputs) (output_names kind) (length (block kind).inputs) j [] inputs low in
        let at = slice_get-get_or (output_names kind) (j - length (block kind).inputs) [] (omega arith) ∙ ap Some (sym there) in
        let named = (bytes_eq-Decides (folded q.text) (folded (get_or (pin_names kind) j []))).0 found.1 in (
          ap (output_numbered kind) named ∙ output_is kind (j - length (block kind).inputs) (get_or (pin_names kind) j []) at
              ∙ ap (λ n. Some (n - length (block kind).inputs)) (sym is),
          omega arith,
        )
