-- The case of a file that has a line is one of its cases.
use Rattle.std.proofs.Common.{◌≡◌, ◌&&◌, ℕ, suc, ◌+◌, ◌<◌, List, [], ◌∷◌, Bool, true, false, Some, None, All, length, get_or, nat_le, nat_lt, if◌then◌else◌, subst, refl, arith}
use Rattle.std.proofs.lemmas.List.Elements.{All-get_or}
use Rattle.ps_bench_cases.specs.declared.case.Case.{Case}
use Rattle.ps_bench_cases.specs.Alone.{case_with, end_before}

-- what holds of each element of a list holds of those after the first
rest_has : {X : Type 0} (P : X → Type 0) (x : X) (xs : List X) → All P (x ∷ xs) → All P xs
rest_has P x xs all = λ k d within. all (suc k) d (omega (arith, within))

case_has : (P : Case → Type 0) (line : ℕ) (c found : Case) (cases : List Case) (has : Bool) →
    (if has then Some c else case_with line cases) ≡ Some found → P c →
    (case_with line cases ≡ Some found → P found) → P found
case_has P line c found cases true is first rest = let same : c ≡ found = cc in subst P same first
case_has P line c found cases false is first rest = rest is

-- what holds of each case holds of the one that has a line
pub has_case_with : (P : Case → Type 0) (line : ℕ) (cases : List Case) (found : Case) →
    case_with line cases ≡ Some found → All P cases → P found
has_case_with P line [] found is all = let none : ⊥ = cc in absurd none
has_case_with P line (c ∷ cases) found is all =
    case_has P line c found cases (nat_le c.line line && nat_lt line (end_before c cases)) is
    (All-get_or P (c ∷ cases) 0 c (omega arith) all)
    (λ rest. has_case_with P line cases found rest (rest_has P c cases all))
