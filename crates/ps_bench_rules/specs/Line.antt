-- What the lines of a rules file say.
use Rattle.std.specs.Prelude.{ℕ, ◌+◌, List, [], ◌∷◌, ◌==◌, ◌&&◌, ◌||◌, Bool, true, false, nat_lt, if◌then◌else◌, length, drop}
use Rattle.std.specs.Prelude.{codes, Option, Some, None, Result, Ok, Err}
use Rattle.std.specs.Str.{bytes_eq}
use Rattle.ps_base.specs.LetterCase.{is_same_name}
use Rattle.ps_model.specs.Network.{Network, input_count}
use Rattle.ps_trace.specs.Words.{number_of}
use Rattle.ps_trace.specs.Faults.{first_of, others_of}
use Rattle.ps_bench_names.specs.Names.{input_in, number_named, signal_names}
use Rattle.ps_bench_names.specs.Words.{before_blanks, behind_blanks, is_digits, is_none_left, words_in}
use Rattle.ps_bench_names.specs.declared.name.Setting.{Setting}
use Rattle.ps_bench_rules.specs.Words.{conditions_said, settings_said}
use Rattle.ps_bench_rules.specs.declared.flaw.Flaw.{Flaw}
use Rattle.ps_bench_rules.specs.declared.flaw.Flaw.TheVariants.{R1, R2, R5}
use Rattle.ps_bench_rules.specs.declared.limits.TheConstants.{LONGEST_PACE}
use Rattle.ps_bench_rules.specs.declared.rules.Condition.{Condition}
use Rattle.ps_bench_rules.specs.declared.rules.Follow.{Follow}
use Rattle.ps_bench_rules.specs.declared.rules.Pace.{Pace}
use Rattle.ps_bench_rules.specs.declared.rules.Pace.TheVariants.{Every, Any}
use Rattle.ps_bench_rules.specs.declared.rules.Purpose.{Purpose}
use Rattle.ps_bench_rules.specs.declared.rules.Purpose.TheVariants.{Never, Same}

-- What a line says: nothing; how scans come; inputs that never change; an input that follows a signal; values in a first
-- scan; a rule begins, by this name, which may be none; conditions of the rule; or it has a flaw.
pub data Said : Type 0 where
  nothing : Said
  paces : Pace → Said
  fixes : List Setting → Said
  ties : Follow → Said
  starts : List Setting → Said
  begins : (name : List ℕ) → Said
  asks : List Condition → Said
  breaks : Flaw → Said

-- ---- Settings.

-- so many ms: from 1 on, up to the most that scans are apart
abbrev pub pace_of_number : Option ℕ → Result Pace Flaw
pace_of_number None = Err R5
pace_of_number (Some n) = if n == 0 then Err R1 else if nat_lt LONGEST_PACE n then Err R5 else Ok (Every n)

-- how scans come: a number of ms, or at any times
abbrev pub pace_of_word : List ℕ → Result Pace Flaw
pace_of_word word =
    if bytes_eq word (codes "any") then Ok Any
    else if is_digits word then pace_of_number (number_of word)
    else Err R1

-- after `every`: one word
abbrev pub pace_said : List (List ℕ) → Result Pace Flaw
pace_said words = if is_none_left (others_of words) then pace_of_word (first_of words) else Err R1

-- settings, of which there is one at least
abbrev pub some_settings : Network → List (List ℕ) → Result (List Setting) Flaw
some_settings net words = if is_none_left words then Err R1 else settings_said net words

-- a signal that may be followed: of a comparison an input or an output
abbrev pub followed : Network → Purpose → Option ℕ → Option ℕ
followed net Never signal = signal
followed net Same None = None
followed net Same (Some signal) = if nat_lt signal (input_count net + length net.outputs) then Some signal else None

-- an input that follows a signal: R2 where one of them is none
abbrev pub follow_with : (denied : Bool) → Option ℕ → Option ℕ → Result Follow Flaw
follow_with denied (Some input) (Some signal) = Ok record { input = input; signal = signal; denied = denied }
follow_with denied (Some input) None = Err R2
follow_with denied None signal = Err R2

-- the input of this name follows the signal of this name
abbrev pub follow_of : Network → Purpose → (denied : Bool) → (input signal : List ℕ) → Result Follow Flaw
follow_of net purpose denied input signal =
    follow_with denied (input_in net (number_named (signal_names net) input))
    (followed net purpose (number_named (signal_names net) signal))

-- after `follows`: an input and a signal, perhaps with NOT between them
abbrev pub follow_said : Network → Purpose → List (List ℕ) → Result Follow Flaw
follow_said net purpose words =
    if is_none_left (others_of words) then Err R1
    else if is_none_left (others_of (others_of words))
    then follow_of net purpose false (first_of words) (first_of (others_of words))
    else if is_same_name (first_of (others_of words)) (codes "NOT") && is_none_left (others_of (others_of (others_of words)))
    then follow_of net purpose true (first_of words) (first_of (others_of (others_of words)))
    else Err R1

-- ---- Lines.

-- what a line says by a part of it, which may have a flaw
abbrev pub said_or : {A : Type 0} → (A → Said) → Result A Flaw → Said
said_or says (Ok a) = says a
said_or says (Err flaw) = breaks flaw

-- whether a word begins a setting
abbrev pub is_setting : List ℕ → Bool
is_setting word =
    bytes_eq word (codes "every") || bytes_eq word (codes "fixed") || bytes_eq word (codes "follows")
    || bytes_eq word (codes "first")

-- what a setting says, of which this is the first word
abbrev pub setting_line : Network → Purpose → List ℕ → List (List ℕ) → Said
setting_line net purpose word words =
    if bytes_eq word (codes "every") then said_or paces (pace_said words)
    else if bytes_eq word (codes "fixed") then said_or fixes (some_settings net words)
    else if bytes_eq word (codes "follows") then said_or ties (follow_said net purpose words)
    else said_or starts (some_settings net words)

-- the name of a `never` line: what stands after that word, without blanks at the ends
abbrev pub rule_name : List ℕ → List ℕ
rule_name line = before_blanks (behind_blanks (drop 5 (behind_blanks line)))

-- a rule begins; a comparison has none
abbrev pub rule_begins : Purpose → (line : List ℕ) → Said
rule_begins Never line = begins (rule_name line)
rule_begins Same line = breaks R1

-- What a line says, by its words that count, and by whether a rule has begun: settings stand before all rules, and
-- conditions after the `never` of theirs.
abbrev pub said_by_words : Network → Purpose → (begun : Bool) → (line : List ℕ) → List (List ℕ) → Said
said_by_words net purpose begun line [] = nothing
said_by_words net purpose begun line (word ∷ words) =
    if bytes_eq word (codes "never") then rule_begins purpose line
    else if is_setting word then (if begun then breaks R1 else setting_line net purpose word words)
    else if begun then said_or asks (conditions_said net (word ∷ words))
    else breaks R1

-- what a line says
abbrev pub line_said : Network → Purpose → (begun : Bool) → List ℕ → Said
line_said net purpose begun line = said_by_words net purpose begun line (words_in line)
