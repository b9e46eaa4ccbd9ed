-- What words ask of the program.
use Rattle.std.specs.Prelude.{◌≤◌, ℕ, Bool, true, false, not, ◌&&◌, ◌==◌, List, [], ◌∷◌, codes, if◌then◌else◌, nat_le}
use Rattle.std.specs.List.{list_all}
use Rattle.std.specs.Str.{bytes_eq, all_ascii_digits}
use Rattle.std.specs.Str.Parse.{digits_value}

-- what the words ask of the program: a command with the names of its files or its number, or nothing that is taken
pub data Command : Type 0 where
  Run : (app trace : List ℕ) → Command
  Fault : (app trace faults : List ℕ) → Command
  Check : (app : List ℕ) → Command
  Cert : (app : List ℕ) → Command
  Verify : (app cert : List ℕ) → Command
  Image : (app : List ℕ) → Command
  Load : (number : ℕ) → Command
  Demand : (app : List ℕ) → Command
  Vote : (app trace faults : List ℕ) → Command
  Heal : (app trace faults : List ℕ) → Command
  NotTaken : Command

-- a word that is neither empty nor begins with a hyphen
abbrev pub is_plain : List ℕ → Bool
is_plain [] = false
is_plain (b ∷ bytes) = not (b == 45)

-- the text does not begin with the digit 0
abbrev pub has_no_leading_zero : List ℕ → Bool
has_no_leading_zero [] = true
has_no_leading_zero (b ∷ bytes) = not (b == 48)

-- the text is a number from 1 to 1000, in decimal digits without a leading zero
abbrev pub is_load_number : List ℕ → Bool
is_load_number text = has_no_leading_zero text && (all_ascii_digits text && (nat_le 1 (digits_value 10 text) && nat_le (digits_value 10 text) 1000))

-- `load N`
abbrev pub load : List ℕ → Command
load number = if is_load_number number then Load (digits_value 10 number) else NotTaken

-- the name of a command and one word
abbrev pub one_word : List ℕ → List ℕ → Command
one_word name word =
    if bytes_eq name (codes "check") then Check word
    else if bytes_eq name (codes "cert") then Cert word
    else if bytes_eq name (codes "image") then Image word
    else if bytes_eq name (codes "load") then load word
    else if bytes_eq name (codes "demand") then Demand word
    else NotTaken

-- the name of a command and two words
abbrev pub two_words : List ℕ → List ℕ → List ℕ → Command
two_words name app other =
    if bytes_eq name (codes "run") then Run app other
    else if bytes_eq name (codes "verify") then Verify app other
    else NotTaken

-- the name of a command and three words
abbrev pub three_words : List ℕ → List ℕ → List ℕ → List ℕ → Command
three_words name app trace faults =
    if bytes_eq name (codes "fault") then Fault app trace faults
    else if bytes_eq name (codes "vote") then Vote app trace faults
    else if bytes_eq name (codes "heal") then Heal app trace faults
    else NotTaken

-- the form of a command that words have: its name and so many words as belong to it
abbrev pub form_of : List (List ℕ) → Command
form_of (name ∷ word ∷ []) = one_word name word
form_of (name ∷ app ∷ other ∷ []) = two_words name app other
form_of (name ∷ app ∷ trace ∷ faults ∷ []) = three_words name app trace faults
form_of words = NotTaken

-- Words are taken where none is empty or begins with a hyphen, and they have the form of a command.
abbrev pub command_of : List (List ℕ) → Command
command_of words = if list_all is_plain words then form_of words else NotTaken

-- the number of a load is from 1 to 1000
abbrev pub IsBounded : Command → Type 0
IsBounded (Load number) = (1 ≤ number) × (number ≤ 1000)
IsBounded command = Unit {0}

-- the names of files that a command gives, in the order in which their texts are asked for
abbrev pub names_of : Command → List (List ℕ)
names_of (Run app trace) = app ∷ trace ∷ []
names_of (Fault app trace faults) = app ∷ faults ∷ trace ∷ []
names_of (Check app) = app ∷ []
names_of (Cert app) = app ∷ []
names_of (Verify app cert) = app ∷ cert ∷ []
names_of (Image app) = app ∷ []
names_of (Load number) = []
names_of (Demand app) = app ∷ []
names_of (Vote app trace faults) = app ∷ faults ∷ trace ∷ []
names_of (Heal app trace faults) = app ∷ faults ∷ trace ∷ []
names_of NotTaken = []

-- the forms of the commands
abbrev pub usage_line : List ℕ
usage_line = codes "usage: plcsafe run APP TRACE | fault APP TRACE FAULTS | check APP | cert APP | verify APP CERT | image APP | load N | demand APP | vote APP TRACE FAULTS | heal APP TRACE FAULTS\n"
