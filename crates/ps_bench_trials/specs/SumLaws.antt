-- Laws of sums.
use Rattle.std.specs.Prelude.{ℕ, List, ◌∷◌, ◌++◌, Option}
use Rattle.ps_bench_trials.specs.Files.{IsSum}
use Rattle.ps_bench_trials.specs.declared.summing.Totals.{Totals}

-- What is the sum of files is their sum too where two of them that stand beside each other change places: by such
-- changes they come into any order.
abbrev pub IsOfAnyOrder : Type 0
IsOfAnyOrder =
    (held : List ℕ → Option (List ℕ)) (names others : List (List ℕ)) (one other : List ℕ) (total : Totals) →
    IsSum held (names ++ one ∷ other ∷ others) total → IsSum held (names ++ other ∷ one ∷ others) total
