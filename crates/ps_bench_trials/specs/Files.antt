-- What the texts of several names tell together.
use Rattle.std.specs.Prelude.{◌≡◌, ◌⊎◌, ℕ, List, [], ◌∷◌, Any, Option, Some}
use Rattle.ps_bench_trials.specs.Sums.{Adds, IsFlaw, IsTold, head_line}
use Rattle.ps_bench_trials.specs.declared.refusal.SumRefusal.{SumRefusal}
use Rattle.ps_bench_trials.specs.declared.refusal.SumRule.TheVariants.{U1}
use Rattle.ps_bench_trials.specs.declared.summing.Totals.{Totals}

-- the text that is held tells these counts
abbrev pub Tells : (held : Option (List ℕ)) → Totals → Type 0
Tells held totals = (text : List ℕ) × (held ≡ Some text) × IsTold text totals

-- what the text that is held tells is added
abbrev pub AddsFile : (held : Option (List ℕ)) → (before after : Totals) → Type 0
AddsFile held before after = (more : Totals) × Tells held more × Adds before more after

-- what the texts of these names tell is added, one after another
abbrev pub AddsFiles : (held : List ℕ → Option (List ℕ)) → (names : List (List ℕ)) → (before after : Totals) → Type 0
AddsFiles held [] before after = after ≡ before
AddsFiles held (name ∷ names) before after =
    (between : Totals) × AddsFile (held name) before between × AddsFiles held names between after

-- the sum of what the texts of these names tell, which are one at least
abbrev pub IsSum : (held : List ℕ → Option (List ℕ)) → (names : List (List ℕ)) → Totals → Type 0
IsSum held [] total = ⊥
IsSum held (first ∷ others) total = (begun : Totals) × Tells (held first) begun × AddsFiles held others begun total

-- a file is refused beside such counts: for its form, or since its head is another one
abbrev pub IsOtherFile : (held : Option (List ℕ)) → (before : Totals) → SumRefusal → Type 0
IsOtherFile held before refusal =
    (refusal.rule ≡ U1)
    ⊎ ((more : Totals) × Tells held more × IsFlaw refusal.rule before more × (refusal.line ≡ head_line refusal.rule))

-- one of these files is
abbrev pub IsOther : (held : List ℕ → Option (List ℕ)) → (names : List (List ℕ)) → (before : Totals) → SumRefusal → Type 0
IsOther held names before refusal = Any (λ name. IsOtherFile (held name) before refusal) names

-- one of these files is refused: for its form, or since it is of another application or trace than the first one
abbrev pub IsRefused : (held : List ℕ → Option (List ℕ)) → (names : List (List ℕ)) → SumRefusal → Type 0
IsRefused held [] refusal = ⊥
IsRefused held (first ∷ others) refusal =
    (refusal.rule ≡ U1) ⊎ ((begun : Totals) × Tells (held first) begun × IsOther held others begun refusal)
