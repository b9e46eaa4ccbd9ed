-- Lists whose elements are copies of each other, from a place on; and what is new at the end is driven.
use Rattle.std.proofs.Common.{◌≡◌, ◌+◌, ◌≤◌, ℕ, true, List, Some, length, take, drop, ap, sym, ◌∙◌, ⊎_elim, arith, take_all}
use Rattle.std.specs.Prelude.{nat_lt, slice_get}
use Rattle.std.specs.List.{list_any}
use Rattle.std.proofs.lemmas.Bool.{ltb-true, or_cases}
use Rattle.ps_model.specs.Network.{Network, drives, input_count, is_driven, is_new}
use Rattle.ps_model.proofs.Rest.{rest_found}
use Rattle.ps_cut.specs.Parts.{AreCopies}

-- one element more
pub copies_on : {A : Type 0} (P : A → A → Type 0) (xs ys : List A) (i : ℕ) (x y : A) → slice_get xs i ≡ Some x → slice_get ys i ≡ Some y →
    P x y → AreCopies P (drop (i + 1) xs) (drop (i + 1) ys) → AreCopies P (drop i xs) (drop i ys)
copies_on P xs ys i x y at at' copy left = rw (rest_found xs i x at, rest_found ys i y at') (copy, left)

-- what is new at the end is an input or driven
pub driven_by : (net : Network) (r : ℕ) → input_count net ≤ r → is_new net (length net.steps) r ≡ true → is_driven net r ≡ true
driven_by net r from new = ⊎_elim
    (λ input. absurd (omega (arith, ltb-true r (input_count net) input)))
    (λ driven. ap (list_any (drives net r)) (sym (take_all (length net.steps) net.steps (omega arith))) ∙ driven)
    (or_cases (nat_lt r (input_count net)) (list_any (drives net r) (take (length net.steps) net.steps)) new)
