-- The message of a refusal.
use Rattle.std.specs.Prelude.{◌≡◌, ◌≢◌, ℕ, ◌-◌, Bool, nat_le, ◌==◌, ◌||◌, ◌&&◌, List, [], ◌++◌, codes, decimal, length, take}
use Rattle.std.specs.Prelude.{if◌then◌else◌}
use Rattle.ps_base.specs.declared.failing.Rule.{Rule}
use Rattle.ps_base.specs.declared.failing.Place.{Place}
use Rattle.ps_base.specs.declared.failing.Refusal.{Refusal}
use Rattle.ps_report.specs.Short.{rule_text}
use Rattle.ps_message.specs.declared.advice.Advice.{Advice}
use Rattle.ps_text.specs.Shown.{first_shown, last_shown}
use Rattle.ps_text.specs.Quoted.{line_of, behind, name_at, quoted}
use Rattle.ps_text.specs.Further.{AreGiven}

-- where the refusal is and by which rule, as `motor.st:4:15: N2: `; of a longer name of a file the last 255 bytes
abbrev pub heading : (file : List ℕ) → Place → Advice → List ℕ
heading file place advice =
    last_shown 255 file ++ codes ":" ++ decimal place.line ++ (if place.column == 0 then [] else codes ":" ++ decimal place.column)
    ++ codes ": " ++ advice.name.now ++ codes ": "

-- what is wrong: the name at the place with what is said of it, or the sentence where there is no name or nothing to
-- say of it
abbrev pub reason : Advice → (name : List ℕ) → List ℕ
reason advice name =
    if length name == 0 || length advice.of_name.now == 0 then advice.sentence.now else name ++ advice.of_name.now

-- where more is said of the rule, as ` (docs/refusals.md, N1)`, and the end of the line
abbrev pub reference : Advice → List ℕ
reference advice = codes " (docs/refusals.md, " ++ advice.name.now ++ codes ")\n"

-- what helps, and where more is said
abbrev pub remedy : Advice → List ℕ
remedy advice = advice.remedy.now ++ reference advice

-- further words in a line of their own, of which the first 200 bytes are shown, or nothing where there are none
abbrev pub further : List ℕ → List ℕ
further words = if length words == 0 then [] else first_shown 200 words ++ codes "\n"

-- the whole message: where, what is wrong, the line with a caret, further words, and what helps
abbrev pub message_text : Advice → (further_words file text : List ℕ) → Place → List ℕ
message_text advice further_words file text place =
    let line = line_of text place.line in
    heading file place advice ++ reason advice (name_at (behind line place.column)) ++ codes "\n" ++ quoted line place.column ++ further further_words
    ++ remedy advice

-- an advice goes by the name of its rule
abbrev pub IsOf : Rule → Advice → Type 0
IsOf rule advice = advice.name.now ≡ rule_text rule

-- at most so many bytes
abbrev pub are_few : ℕ → List ℕ → Bool
are_few most bytes = nat_le (length bytes) most

-- no part of an advice is long
abbrev pub is_short : Advice → Bool
is_short advice =
    are_few 3 advice.name.now && are_few 200 advice.sentence.now && are_few 200 advice.of_name.now && are_few 200 advice.remedy.now

-- these bytes are the message of a refusal, with an advice on its rule, and with further words: those that are given,
-- where there are any
abbrev pub Says : (file text : List ℕ) → Refusal → (given : List ℕ) → List ℕ → Type 0
Says file text refusal given bytes =
    (advice : Advice) × IsOf refusal.rule advice × (words : List ℕ) × AreGiven given words × (bytes ≡ message_text advice words file text refusal.place)

-- lines without the end of the last one
abbrev pub unended : List ℕ → List ℕ
unended lines = take (length lines - 1) lines

-- a message without its place and the line: what is wrong, further words, and what helps
abbrev pub plain_text : Advice → (further_words text : List ℕ) → Place → List ℕ
plain_text advice further_words text place =
    unended (reason advice (name_at (behind (line_of text place.line) place.column)) ++ codes "\n" ++ further further_words ++ remedy advice)

-- these bytes are the message of a refusal without its place and the line, with an advice on its rule, and with further
-- words: those that are given, where there are any
abbrev pub SaysPlainly : (text : List ℕ) → Refusal → (given : List ℕ) → List ℕ → Type 0
SaysPlainly text refusal given bytes =
    (advice : Advice) × IsOf refusal.rule advice × (words : List ℕ) × AreGiven given words × (bytes ≡ plain_text advice words text refusal.place)
