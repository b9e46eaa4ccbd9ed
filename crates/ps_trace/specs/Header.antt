-- The header of a trace.
use Rattle.std.specs.Prelude.{ℕ, Bool, List, [], ◌∷◌, not, ◌==◌, if◌then◌else◌, Option, is_none, unwrap_or, length, map}
use Rattle.std.specs.Prelude.{count_by, codes}
use Rattle.std.specs.List.{list_any, filter_map, position_from, range_with_len}
use Rattle.std.specs.Str.{bytes_eq}
use Rattle.ps_base.specs.LetterCase.{is_same_name}
use Rattle.ps_base.specs.declared.failing.Rule.{Rule}
use Rattle.ps_base.specs.declared.failing.Rule.TheVariants.{T1, T2, T3}
use Rattle.ps_model.specs.Network.{Network}

-- the names of an application's inputs
abbrev pub input_names : Network → List (List ℕ)
input_names net = map (λ s. s.name) net.inputs

-- the number of the input that a word names, without letter case
abbrev pub input_named : List (List ℕ) → List ℕ → Option ℕ
input_named names word = position_from (is_same_name word) 0 names

-- the numbers of the inputs that these words name
abbrev pub inputs_named : List (List ℕ) → List (List ℕ) → List ℕ
inputs_named names words = filter_map (input_named names) words

-- some word names no input
abbrev pub names_another : List (List ℕ) → List (List ℕ) → Bool
names_another names words = list_any (λ word. is_none (input_named names word)) words

-- how often input i is named
abbrev pub times_named : List ℕ → ℕ → ℕ
times_named named i = count_by (λ j. j == i) named

-- some input isn't named, or is named twice
abbrev pub not_once_each : ℕ → List ℕ → Bool
not_once_each inputs named = list_any (λ i. not (times_named named i == 1)) (range_with_len 0 inputs)

-- where the value of input i stands on a scan line: at the place of its name in the header
abbrev pub place_of : List ℕ → ℕ → ℕ
place_of named i = unwrap_or (position_from (λ j. j == i) 0 named) 0

-- What a line says as a header: it is skipped; it gives the place of each input's value; or it is refused by a rule.
pub data Header : Type 0 where
  no_header : Header
  places : List ℕ → Header
  wrong : Rule → Header

-- what the names of a header say
abbrev pub names_said : List (List ℕ) → List (List ℕ) → Header
names_said names words =
    if names_another names words then wrong T2
    else if not_once_each (length names) (inputs_named names words) then wrong T3
    else places (map (place_of (inputs_named names words)) (range_with_len 0 (length names)))

-- what the words of a header say
abbrev pub header_said : List (List ℕ) → List (List ℕ) → Header
header_said names [] = no_header
header_said names (word ∷ words) = if bytes_eq word (codes "time") then names_said names words else wrong T1
