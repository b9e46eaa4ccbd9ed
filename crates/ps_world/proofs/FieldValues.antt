-- Where the value of a field of a report stands.
use Rattle.std.proofs.Common.{◌≡◌, ◌∙◌, ℕ, zero, suc, ◌+◌, ◌*◌, ◌<◌, ◌≤◌, Bool, List, [], ◌∷◌, ◌++◌, length, map, refl, Some, None, ap, arith, zero-add}
use Rattle.std.specs.Prelude.{slice_get}
use Rattle.std.specs.List.{flat_map}
use Rattle.std.specs.Option.{option_map}
use Rattle.std.proofs.lemmas.List.{length-map}
use Rattle.std.proofs.lemmas.List.Concat.{flat_map-cons}
use Rattle.std.proofs.lemmas.Option.{same_Some, slice_get-map, slice_get_past}
use Rattle.ps_model.specs.declared.report.Diag.{Diag}
use Rattle.ps_model.specs.declared.report.Report.{Report}
use Rattle.ps_model.specs.Stored.{bit}
use Rattle.ps_model.specs.Fields.{diag_fields, fields}
use Rattle.ps_model.proofs.FieldPlaces.{length-fields}

-- an element of the first of two lists
get_within : (xs ys : List ℕ) (n : ℕ) → n < length xs → slice_get (xs ++ ys) n ≡ slice_get xs n
get_within [] ys n few = absurd (omega (arith, few))
get_within (x ∷ xs) ys zero few = refl
get_within (x ∷ xs) ys (suc n) few = get_within xs ys n (omega (arith, few))

-- an element of the second
get_behind : (xs ys : List ℕ) (n k : ℕ) → k ≡ length xs + n → slice_get (xs ++ ys) k ≡ slice_get ys n
get_behind [] ys n k at = ap (slice_get ys) (at ∙ zero-add n)
get_behind (x ∷ xs) ys n zero at = absurd (omega (arith, at))
get_behind (x ∷ xs) ys n (suc k) at = get_behind xs ys n k (omega (arith, at))

-- a field of an instance
diag_at : (ds : List Diag) (i p k : ℕ) (d : Diag) → slice_get ds i ≡ Some d → p < 3 → k ≡ 3 * i + p → slice_get (flat_map diag_fields ds) k ≡ slice_get (diag_fields d) p
diag_at [] i p k d at few is = let none : None ≡ Some d = at in cc
diag_at (x ∷ ds) zero p k d at few is =
    ap (λ l. slice_get l k) (flat_map-cons diag_fields x ds)
    ∙ get_within (diag_fields x) (flat_map diag_fields ds) k (omega (arith, few, is))
    ∙ (let e : k ≡ p = omega (arith, is) in ap (slice_get (diag_fields x)) e)
    ∙ ap (λ y. slice_get (diag_fields y) p) (same_Some x d at)
diag_at (x ∷ ds) (suc i) p k d at few is =
    ap (λ l. slice_get l k) (flat_map-cons diag_fields x ds)
    ∙ get_behind (diag_fields x) (flat_map diag_fields ds) (3 * i + p) k (omega (arith, is))
    ∙ diag_at ds i p (3 * i + p) d at few refl

-- the value of an output
pub output_value : (r : Report) (j : ℕ) (b : Bool) → j < length r.outs → slice_get r.outs j ≡ Some b → slice_get (fields r) j ≡ Some (bit b)
output_value r j b few at =
    get_within (map bit r.outs) (flat_map diag_fields r.diags) j (omega (arith, few, length-map r.outs bit))
    ∙ slice_get-map bit r.outs j ∙ ap (option_map bit) at

-- the value of a field of an instance
pub diag_value : (r : Report) (i p k : ℕ) (d : Diag) (v : ℕ) → slice_get r.diags i ≡ Some d → p < 3 → k ≡ length r.outs + (3 * i + p) →
    slice_get (diag_fields d) p ≡ Some v → slice_get (fields r) k ≡ Some v
diag_value r i p k d v at few is value =
    get_behind (map bit r.outs) (flat_map diag_fields r.diags) (3 * i + p) k (omega (arith, is, length-map r.outs bit))
    ∙ diag_at r.diags i p (3 * i + p) d at few refl ∙ value

-- there is no field past the last
pub no_value : (r : Report) (k : ℕ) → length r.outs + 3 * length r.diags ≤ k → slice_get (fields r) k ≡ None
no_value r k past = slice_get_past (fields r) k (omega (arith, past, length-fields r))
