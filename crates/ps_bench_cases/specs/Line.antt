-- What the lines of a case file say.
use Rattle.std.specs.Prelude.{ℕ, ◌-◌, List, [], ◌∷◌, ◌==◌, ◌&&◌, Bool, true, false, not, nat_le, if◌then◌else◌, length}
use Rattle.std.specs.Prelude.{take, drop, slice_index_or, codes, fold, Option, Some, None, Result, Ok, Err}
use Rattle.std.specs.Option.{ok_or}
use Rattle.std.specs.List.{list_all, prefix_len, suffix_len}
use Rattle.std.specs.Str.{bytes_eq, is_utf8, chars}
use Rattle.ps_model.specs.declared.channel.Channel.{Channel}
use Rattle.ps_model.specs.declared.channel.Region.{Region}
use Rattle.ps_model.specs.Network.{Network}
use Rattle.ps_trace.specs.Words.{is_blank}
use Rattle.ps_trace.specs.Faults.{first_of, others_of, region_of, bytes_said, channel_of}
use Rattle.ps_bench_cases.specs.Parts.{both, and_then}
use Rattle.ps_bench_names.specs.Words.{words_in, is_none_left, behind_blanks, before_blanks}
use Rattle.ps_bench_cases.specs.Words.{number_said, above_zero, setting_said}
use Rattle.ps_bench_names.specs.Names.{name_of, value_of, values_of, has_equals, name_part, value_part, is_denied}
use Rattle.ps_bench_cases.specs.declared.rule.CaseRule.{CaseRule}
use Rattle.ps_bench_cases.specs.declared.rule.CaseRule.TheVariants.{K1, K2, K3}
use Rattle.ps_bench_names.specs.declared.name.Setting.{Setting}
use Rattle.ps_bench_names.specs.declared.name.Name.{Name}
use Rattle.ps_bench_cases.specs.declared.case.Check.{Check}
use Rattle.ps_bench_cases.specs.declared.case.Check.TheVariants.{Trip, NoTrip, Among, Not}
use Rattle.ps_bench_cases.specs.declared.case.Window.{Window}
use Rattle.ps_bench_cases.specs.declared.case.Window.TheVariants.{Now, Within, For as Throughout}
use Rattle.ps_bench_cases.specs.declared.deed.Deed.{Deed}
use Rattle.ps_bench_cases.specs.declared.deed.Deed.TheVariants.{Set, At, After, Times, For, Until, Restart, Fault, Expect}

-- ---- Settings and checks.

-- the settings that words are
abbrev pub settings_said : Network → List (List ℕ) → Result (List Setting) CaseRule
settings_said net words = fold (λ found word. and_then found (setting_said net word)) (Ok []) words

-- a value that a name has not: K3 where it is none
abbrev pub not_value : Name → Option ℕ → Result Check CaseRule
not_value name None = Err K3
not_value name (Some value) = Ok (Not name value)

-- values of which a name has one: K3 where one of them is none
abbrev pub among_values : Name → Option (List ℕ) → Result Check CaseRule
among_values name None = Err K3
among_values name (Some values) = Ok (Among name values)

-- NAME!=V: K2 where there is no such name
abbrev pub not_said : Network → Option Name → List ℕ → Result Check CaseRule
not_said net None value = Err K2
not_said net (Some name) value = not_value name (value_of net name value)

-- NAME=V,V..: K2 where there is no such name
abbrev pub among_said : Network → Option Name → List ℕ → Result Check CaseRule
among_said net None value = Err K2
among_said net (Some name) value = among_values name (values_of net name value)

-- a name and what stands after its `=`
abbrev pub compare_said : Network → (name value : List ℕ) → Result Check CaseRule
compare_said net name value =
    if is_denied name then not_said net (name_of net (take (length name - 1) name)) value
    else among_said net (name_of net name) value

-- the check that a word is: K1 where it is no word for a trip and has no `=`
abbrev pub check_said : Network → List ℕ → Result Check CaseRule
check_said net word =
    if bytes_eq word (codes "trip") then Ok Trip
    else if bytes_eq word (codes "no-trip") then Ok NoTrip
    else if has_equals word then compare_said net (name_part word) (value_part word)
    else Err K1

-- the checks that words are: K1 where there is none
abbrev pub checks_said : Network → List (List ℕ) → Result (List Check) CaseRule
checks_said net words =
    if is_none_left words then Err K1 else fold (λ found word. and_then found (check_said net word)) (Ok []) words

-- ---- Deeds. A word that is missing is empty, and so no word that is wanted.

-- what a line asks for with no settings
abbrev pub alone : Result Deed CaseRule → Result (Deed × List Setting) CaseRule
alone (Ok deed) = Ok (deed, [])
alone (Err rule) = Err rule

-- what is made of a number
abbrev pub deed_with : (ℕ → Deed) → Result ℕ CaseRule → Result Deed CaseRule
deed_with made (Ok n) = Ok (made n)
deed_with made (Err rule) = Err rule

-- what is made of two numbers
abbrev pub deed_of_two : (ℕ → ℕ → Deed) → Result (ℕ × ℕ) CaseRule → Result Deed CaseRule
deed_of_two made (Ok (a, b)) = Ok (made a b)
deed_of_two made (Err rule) = Err rule

-- after `every`: a step, `times`, `for` or `until`, and a number
abbrev pub every_said : (step key number : List ℕ) → Result Deed CaseRule
every_said step key number =
    if bytes_eq key (codes "times") then deed_of_two Times (both (number_said step) (number_said number))
    else if bytes_eq key (codes "for") then deed_of_two For (both (above_zero (number_said step)) (number_said number))
    else if bytes_eq key (codes "until")
    then deed_of_two Until (both (above_zero (number_said step)) (number_said number))
    else Err K1

-- the fault of these parts, of a scan that is not yet known
abbrev pub strike_of : Result (ℕ × (Channel × (Region × (ℕ × List ℕ)))) CaseRule → Result Deed CaseRule
strike_of (Ok (turn, (channel, (region, (at, bytes))))) =
    Ok (Fault record { scan = 0; turn = turn; channel = channel; region = region; at = at; bytes = bytes })
strike_of (Err rule) = Err rule

-- a channel, a region, an offset and bytes, before this turn
abbrev pub struck_said : Result ℕ CaseRule → (channel region offset bytes : List ℕ) → Result Deed CaseRule
struck_said turn channel region offset bytes =
    strike_of (both turn (both (ok_or (channel_of channel) K1)
    (both (ok_or (region_of region) K1) (both (number_said offset) (ok_or (bytes_said bytes) K1)))))

-- the same in four words: K1 where a word stands after them
abbrev pub target_said : Result ℕ CaseRule → List (List ℕ) → Result Deed CaseRule
target_said turn words =
    if is_none_left (others_of (others_of (others_of (others_of words))))
    then struck_said turn (first_of words) (first_of (others_of words)) (first_of (others_of (others_of words)))
    (first_of (others_of (others_of (others_of words))))
    else Err K1

-- after `fault`: perhaps `turn` and a turn from 1 on, and what is struck
abbrev pub fault_said : List (List ℕ) → Result Deed CaseRule
fault_said words =
    if bytes_eq (first_of words) (codes "turn")
    then target_said (above_zero (number_said (first_of (others_of words)))) (others_of (others_of words))
    else target_said (Ok 0) words

-- checks in a window
abbrev pub expect_of : (ℕ → Window) → Result (ℕ × List Check) CaseRule → Result Deed CaseRule
expect_of window (Ok (d, checks)) = Ok (Expect (window d) checks)
expect_of window (Err rule) = Err rule

-- checks of the scan before
abbrev pub expect_now : Result (List Check) CaseRule → Result Deed CaseRule
expect_now (Ok checks) = Ok (Expect Now checks)
expect_now (Err rule) = Err rule

-- after `expect`: perhaps `within` or `for` and a number, and checks
abbrev pub expect_said : Network → List (List ℕ) → Result Deed CaseRule
expect_said net words =
    if bytes_eq (first_of words) (codes "within")
    then expect_of Within
    (both (number_said (first_of (others_of words))) (checks_said net (others_of (others_of words))))
    else if bytes_eq (first_of words) (codes "for")
    then expect_of Throughout
    (both (number_said (first_of (others_of words))) (checks_said net (others_of (others_of words))))
    else expect_now (checks_said net words)

-- a deed, with the settings after it
abbrev pub with_settings : Network → Result Deed CaseRule → List (List ℕ) → Result (Deed × List Setting) CaseRule
with_settings net deed words = both deed (settings_said net words)

-- the first byte of a word, 0 where it is empty
abbrev pub first_byte : List ℕ → ℕ
first_byte word = slice_index_or word 0 0

-- after `set`: settings, K1 where there is none
abbrev pub set_said : Network → List (List ℕ) → Result (Deed × List Setting) CaseRule
set_said net words = if is_none_left words then Err K1 else with_settings net (Ok Set) words

-- after `every`: three words
abbrev pub behind_every : List (List ℕ) → Result Deed CaseRule
behind_every words =
    if is_none_left (others_of (others_of (others_of words)))
    then every_said (first_of words) (first_of (others_of words)) (first_of (others_of (others_of words))) else Err K1

-- after `restart`: no word
abbrev pub restart_said : List (List ℕ) → Result Deed CaseRule
restart_said words = if is_none_left words then Ok Restart else Err K1

-- what the words of a line ask for, of which this is the first
abbrev pub deed_said : Network → List ℕ → List (List ℕ) → Result (Deed × List Setting) CaseRule
deed_said net word words =
    if bytes_eq word (codes "set") then set_said net words
    else if bytes_eq word (codes "at")
    then with_settings net (deed_with At (number_said (first_of words))) (others_of words)
    else if bytes_eq word (codes "every") then alone (behind_every words)
    else if bytes_eq word (codes "restart") then alone (restart_said words)
    else if bytes_eq word (codes "fault") then alone (fault_said words)
    else if bytes_eq word (codes "expect") then alone (expect_said net words)
    else if first_byte word == 43 then with_settings net (deed_with After (number_said (drop 1 word))) words
    else Err K1

-- ---- Lines.

-- the name of a `case` line: what stands after that word, without blanks at the ends
abbrev pub case_name : List ℕ → List ℕ
case_name line = before_blanks (behind_blanks (drop 4 (behind_blanks line)))

-- What a line says: nothing; a case begins, by this name, which may be none; it asks for something; or it is refused by
-- a rule.
pub data Said : Type 0 where
  nothing : Said
  begins : (name : List ℕ) → Said
  asks : Deed → List Setting → Said
  breaks : CaseRule → Said

-- what a line says by what it asks for
abbrev pub asked : Result (Deed × List Setting) CaseRule → Said
asked (Ok (deed, settings)) = asks deed settings
asked (Err rule) = breaks rule

-- what a line says, by its words that count
abbrev pub said_by_words : Network → (line : List ℕ) → List (List ℕ) → Said
said_by_words net line [] = nothing
said_by_words net line (word ∷ words) =
    if bytes_eq word (codes "case") then begins (case_name line) else asked (deed_said net word words)

-- what a line says
abbrev pub line_said : Network → List ℕ → Said
line_said net line = said_by_words net line (words_in line)
