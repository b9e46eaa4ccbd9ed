-- What the words of a call stand for that name what is watched.
use Rattle.std.specs.Prelude.{◌≡◌, slice_get, ℕ, Bool, true, false, List}
use Rattle.std.specs.Prelude.{[], ◌∷◌, ◌++◌, map, Option, Some, None, if◌then◌else◌}
use Rattle.ps_base.specs.LetterCase.{is_same_name}
use Rattle.ps_bench_names.specs.declared.name.Name.{Name}
use Rattle.ps_model.specs.Network.{Network}
use Rattle.ps_bench_waves.specs.Names.{all_names}
use Rattle.ps_bench_waves.specs.Shown.{label}

-- the first of these names that is called so, without letter case
abbrev pub called_among : Network → List Name → (word : List ℕ) → Option Name
called_among net [] word = None
called_among net (name ∷ names) word =
    if is_same_name word (label net name) then Some name else called_among net names word

-- what a word names: an input, output or local, an instance, or a BOOL or SAFEBOOL pin of one
abbrev pub name_called : Network → (word : List ℕ) → Option Name
name_called net word = called_among net (all_names net) word

-- what is watched: what the words name, and where there are none what is watched by default
abbrev pub AreWatched : Network → (by_default : List Name) → (words : List (List ℕ)) → List Name → Type 0
AreWatched net by_default [] names = names ≡ by_default
AreWatched net by_default (word ∷ words) names = map (name_called net) (word ∷ words) ≡ map Some names

-- this word stands among these, and names nothing
abbrev pub HasUnnamed : Network → (words : List (List ℕ)) → (word : List ℕ) → Type 0
HasUnnamed net words word = (place : ℕ) × (slice_get words place ≡ Some word) × (name_called net word ≡ None)

-- names with one more after them, if there is one
abbrev pub Adds : Option Name → (before after : List Name) → (found : Bool) → Type 0
Adds (Some name) before after found = (found ≡ true) × (after ≡ before ++ name ∷ [])
Adds None before after found = found ≡ false
