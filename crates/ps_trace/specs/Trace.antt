-- What the lines of a trace say.
use Rattle.std.specs.Prelude.{ℕ, List, [], ◌∷◌, Bool, true, false, not, ◌==◌, nat_lt, if◌then◌else◌, Option, Some, None}
use Rattle.std.specs.Prelude.{is_some, length}
use Rattle.std.specs.List.{list_all, filter_map}
use Rattle.std.specs.Str.{bytes_eq}
use Rattle.std.specs.Prelude.{codes}
use Rattle.ps_base.specs.declared.failing.Rule.{Rule}
use Rattle.ps_base.specs.declared.failing.Rule.TheVariants.{T4, T5, T6, T7}
use Rattle.ps_trace.specs.Words.{number_of}

-- the value that a word is: `0` or `1`
abbrev pub value_of : List ℕ → Option Bool
value_of [] = None
value_of (b ∷ []) = if b == 48 then Some false else if b == 49 then Some true else None
value_of (b ∷ c ∷ word) = None

-- What a line after the header says: it is skipped; it is a restart; it is a scan, with its time and its values in
-- the header's order; or it is refused by a rule.
pub data Said : Type 0 where
  skips : Said
  restarts : Said
  scans : (now : ℕ) (values : List Bool) → Said
  breaks : Rule → Said

-- a scan line with these values: its time is a number, and not less than the last one
abbrev pub scan_at_time : (last : ℕ) → Option ℕ → List Bool → Said
scan_at_time last None values = breaks T6
scan_at_time last (Some now) values = if nat_lt now last then breaks T7 else scans now values

-- a scan line: a time and one value for each of so many names
abbrev pub scan_line : (names last : ℕ) (time : List ℕ) (values : List (List ℕ)) → Said
scan_line names last time values =
    if not (length values == names) then breaks T4
    else if not (list_all (λ word. is_some (value_of word)) values) then breaks T5
    else scan_at_time last (number_of time) (filter_map value_of values)

-- the one word `restart`
abbrev pub is_restart : List ℕ → List (List ℕ) → Bool
is_restart word [] = bytes_eq word (codes "restart")
is_restart word (other ∷ words) = false

-- what the words of a line after the header say
abbrev pub line_said : (names last : ℕ) → List (List ℕ) → Said
line_said names last [] = skips
line_said names last (word ∷ words) = if is_restart word words then restarts else scan_line names last word words
