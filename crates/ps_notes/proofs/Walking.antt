-- Walks over the steps, the arguments and ranges of numbers: what is noted and listed, and what is left.
use Rattle.std.proofs.Common.{◌≡◌, ℕ, suc, ◌+◌, ◌-◌, ◌<◌, Bool, true, false, cond, ◌||◌, ◌&&◌, List, [], ◌∷◌, ◌++◌, length, drop, Option, Some, None, refl, sym, ap, ◌∙◌, arith}
use Rattle.std.specs.Prelude.{position, slice_get}
use Rattle.std.specs.List.{flat_map, list_any, range_with_len}
use Rattle.std.specs.Option.{option_or}
use Rattle.std.proofs.lemmas.List.Folds.{list_any-append}
use Rattle.ps_model.specs.Action.{Actual}
use Rattle.ps_model.specs.FirstSteps.{with_step}
use Rattle.ps_model.specs.Values.{reads, values_at_pin}
use Rattle.ps_model.proofs.Positions.{position_more}
use Rattle.ps_model.proofs.Rest.{rest_found}

-- noted for a part, and then for the rest, is noted for the whole
pub with_both : (a b c : Bool) (k : ℕ) (first : Option ℕ) → with_step (b && c) k (with_step (a && c) k first) ≡ with_step ((a || b) && c) k first
with_both true true true k None = refl
with_both true true true k (Some m) = refl
with_both true false true k first = refl
with_both false b true k first = refl
with_both true true false k first = refl
with_both true false false k first = refl
with_both false true false k first = refl
with_both false false false k first = refl

-- the first of some steps is noted, and then one more step
pub first_of_more : {X : Type 0} (p : X → Bool) (steps : List X) (a : X) (k : ℕ) → k ≡ length steps →
    with_step (p a) k (position p steps) ≡ position p (steps ++ a ∷ [])
first_of_more p steps a k last =
    noted (p a) k (position p steps)
    ∙ ap (λ n. option_or (position p steps) (cond (p a) (Some n) None)) last
    ∙ sym (position_more p steps a)
  where
    noted : (has : Bool) (k : ℕ) (first : Option ℕ) → with_step has k first ≡ option_or first (cond has (Some k) None)
    noted true k first = refl
    noted false k None = refl
    noted false k (Some m) = refl

-- the arguments from a place on read a signal where the first does, or the others do
pub args_next : (args : List Actual) (j : ℕ) (a : Actual) (n : ℕ) → slice_get args j ≡ Some a →
    list_any (reads n) (flat_map values_at_pin (drop j args))
    ≡ (list_any (reads n) (values_at_pin a) || list_any (reads n) (flat_map values_at_pin (drop (j + 1) args)))
args_next args j a n at =
    ap (λ xs. list_any (reads n) (flat_map values_at_pin xs)) (rest_found args j a at)
    ∙ list_any-append (reads n) (values_at_pin a) (flat_map values_at_pin (drop (j + 1) args))

-- a test of the numbers of a range from a place on is that of the first of them, or of the others
pub any_from : (p : ℕ → Bool) (a n j : ℕ) → j < n →
    list_any p (range_with_len (a + j) (n - j)) ≡ (p (a + j) || list_any p (range_with_len (a + (j + 1)) (n - (j + 1))))
any_from p a n j inside =
    let more : n - j ≡ suc (n - (j + 1)) = omega arith in
    let next : a + j + 1 ≡ a + (j + 1) = omega arith in
    ap (λ m. list_any p (range_with_len (a + j) m)) more
    ∙ ap (λ b. p (a + j) || list_any p (range_with_len b (n - (j + 1)))) next

-- what is listed of the numbers from a place on is that of the first of them, and then that of the others
pub each_from : {X : Type 0} (f : ℕ → List X) (n s : ℕ) → s < n →
    flat_map f (range_with_len s (n - s)) ≡ f s ++ flat_map f (range_with_len (s + 1) (n - (s + 1)))
each_from f n s inside =
    let more : n - s ≡ suc (n - (s + 1)) = omega arith in
    ap (λ m. flat_map f (range_with_len s m)) more
