-- What an output demands, for whoever asks at its name.
use Rattle.std.specs.Prelude.{◌≡◌, ◌==◌, ◌&&◌, ℕ, Bool, List, Option, None, Result, Ok, Err, codes, drop, find, length, nat_eq, take}
use Rattle.std.specs.List.{slice_split, starts_with}
use Rattle.ps_base.specs.LetterCase.{is_same_name}
use Rattle.ps_base.specs.declared.failing.Fail.{Fail}
use Rattle.ps_base.specs.declared.failing.Fail.TheVariants.{Memory, Refused}
use Rattle.ps_accepted.specs.Answering.{IsFrontOf}
use Rattle.ps_accepted.specs.Demanding.{IsDemanding, lines_demanded}
use Rattle.ps_accepted.specs.declared.demanding.Demanded.{Demanded}

-- whether a line of demands is that of an output: it begins with its name, in any letter case, and ` needs `
abbrev pub is_demand_of : (name line : List ℕ) → Bool
is_demand_of name line = is_same_name (take (length name) line) name && starts_with nat_eq (drop (length name) line) (codes " needs ")

-- the line of an output among the lines of all demands, if there is one
abbrev pub demand_among : (name lines : List ℕ) → Option (List ℕ)
demand_among name lines = find (is_demand_of name) (slice_split (λ b. b == 10) lines)

-- the line that is told, if the demands have lines: none if one of them is too large
abbrev pub IsAmong : (name : List ℕ) → Result (List ℕ) Fail → Option (List ℕ) → Type 0
IsAmong name (Ok lines) told = told ≡ demand_among name lines
IsAmong name (Err (Refused refusal)) told = told ≡ None
IsAmong name (Err Memory) told = ⊥

-- the line that is told by what a text gives: none if its application is refused
abbrev pub IsGiven : (name : List ℕ) → Result Demanded Fail → Option (List ℕ) → Type 0
IsGiven name (Ok demanded) told = IsAmong name (lines_demanded demanded) told
IsGiven name (Err (Refused refusal)) told = told ≡ None
IsGiven name (Err Memory) told = ⊥

-- What is told of the demand of an output of a text: its line, by the demands of the application of every text that
-- begins with these bytes. None if there is no such line.
pub record IsDemandOfText (text name : List ℕ) (told : Option (List ℕ)) : Type 0 where
  pub given : Result Demanded Fail
  pub demands : (whole : List ℕ) → IsFrontOf text whole → IsDemanding whole given
  pub is : IsGiven name given told
