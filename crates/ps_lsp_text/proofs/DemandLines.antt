-- The line of what an output demands.
use Rattle.std.proofs.Common.{◌≡◌, ◌↔◌, ℕ, min, List, Bool, IsTrue, length, take, drop, map, inl, inr, sym, ap, ◌∙◌, arith}
use Rattle.std.specs.Char.{to_ascii_lowercase}
use Rattle.std.proofs.lemmas.Bool.{cases_lt}
use Rattle.std.proofs.lemmas.Grind.{common_steps}
use Rattle.std.proofs.lemmas.List.{drop_all, take_all}
use Rattle.std.proofs.lemmas.Slice.Eq.{bytes_eq-Decides}
use Rattle.ps_base.specs.LetterCase.{is_same_name}

-- what a comparison without letter case says
pub same_name : (found : Bool) (a b : List ℕ) → (IsTrue found ↔ (map to_ascii_lowercase a ≡ map to_ascii_lowercase b)) → is_same_name a b ≡ found
same_name found a b test = let decides = bytes_eq-Decides (map to_ascii_lowercase a) (map to_ascii_lowercase b) in grind (arith, common_steps)

-- no more than all of a line is taken from it
pub take_least : (xs : List ℕ) (n m : ℕ) → m ≡ min n (length xs) → take m xs ≡ take n xs
take_least xs n m is = elim (cases_lt (length xs) n) [
  | inl more ↦ take_all m xs (omega arith) ∙ sym (take_all n xs (omega arith))
  | inr few ↦ let same : m ≡ n = omega arith in ap (λ (k : ℕ). take k xs) same
]

pub drop_least : (xs : List ℕ) (n m : ℕ) → m ≡ min n (length xs) → drop m xs ≡ drop n xs
drop_least xs n m is = elim (cases_lt (length xs) n) [
  | inl more ↦ drop_all m xs (omega arith) ∙ sym (drop_all n xs (omega arith))
  | inr few ↦ let same : m ≡ n = omega arith in ap (λ (k : ℕ). drop k xs) same
]
