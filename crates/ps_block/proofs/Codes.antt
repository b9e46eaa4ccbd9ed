-- States by their codes.
use Rattle.std.proofs.Common.{◌≡◌, ℕ, List, [], ◌∷◌, sym, ap, ◌∙◌, Option, Some, None}
use Rattle.std.specs.Prelude.{◌==◌, if◌then◌else◌}
use Rattle.std.proofs.lemmas.Option.{same_Some}

-- the first of these states that has the code
abbrev pub with_code : {P : Type 0} → (P → ℕ) → List P → ℕ → Option P
with_code code_of [] n = None
with_code code_of (p ∷ ps) n = if code_of p == n then Some p else with_code code_of ps n

-- where each state is found by its code, two states with one code are one
pub same_state : {P : Type 0} (code_of : P → ℕ) (ps : List P) → ((p : P) → with_code code_of ps (code_of p) ≡ Some p) → (p q : P) → code_of p ≡ code_of q → p ≡ q
same_state code_of ps found p q e = same_Some p q (sym (found p) ∙ ap (with_code code_of ps) e ∙ found q)
