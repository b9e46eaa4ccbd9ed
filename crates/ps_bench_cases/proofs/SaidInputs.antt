-- The settings that a line says are of inputs.
use Rattle.std.proofs.Common.{◌≡◌, ◌<◌, ℕ, List, [], ◌∷◌, Bool, true, false, Option, Some, None, Result, Ok, Err, IfOk, fold, codes, nat_lt, ◌==◌, if◌then◌else◌, drop, refl}
use Rattle.std.specs.List.{All}
use Rattle.std.specs.Str.{bytes_eq}
use Rattle.std.proofs.lemmas.Bool.{ltb-true}
use Rattle.std.proofs.lemmas.List.Elements.{All-nil, All-push}
use Rattle.ps_model.specs.Network.{Network, input_count}
use Rattle.ps_trace.specs.Faults.{first_of, others_of}
use Rattle.ps_bench_cases.specs.declared.rule.CaseRule.{CaseRule}
use Rattle.ps_bench_cases.specs.declared.rule.CaseRule.TheVariants.{K1}
use Rattle.ps_bench_names.specs.declared.name.Setting.{Setting}
use Rattle.ps_bench_cases.specs.declared.deed.Deed.{Deed}
use Rattle.ps_bench_cases.specs.declared.deed.Deed.TheVariants.{Set, At, After}
use Rattle.ps_bench_cases.specs.Parts.{both, and_then}
use Rattle.ps_bench_cases.specs.Words.{number_said, setting_of, setting_said}
use Rattle.ps_bench_names.specs.Names.{number_named, signal_names, name_part, value_part, truth_of, has_equals, input_in}
use Rattle.ps_bench_names.specs.Words.{words_in}
use Rattle.ps_bench_cases.specs.Line.{Said, alone, deed_with, settings_said, with_settings, set_said, behind_every, restart_said, fault_said, expect_said, deed_said, asked, said_by_words, line_said, case_name, first_byte}
use Rattle.ps_bench_names.specs.Words.{is_none_left}
use Rattle.ps_bench_cases.specs.Line.Said.{nothing, begins, asks, breaks}

-- of two answers each of which has what is wanted, either has it
pub either_has : {A : Type 0} (P : A → Type 0) (b : Bool) (r s : Result A CaseRule) → IfOk r P → IfOk s P → IfOk (if b then r else s) P
either_has P true r s first second = first
either_has P false r s first second = second

module _ (net : Network) where
  -- a setting is of an input
  abbrev pub IsOfInput : Setting → Type 0
  IsOfInput setting = setting.input < input_count net

  abbrev pub AreOfInputs : List Setting → Type 0
  AreOfInputs settings = All IsOfInput settings

  -- an input is one
  below : (signal : ℕ) (value : Option Bool) (within : Bool) → (within ≡ true → signal < input_count net) → IfOk (setting_of (if within then Some signal else None) value) IsOfInput
  below signal None true less = tt
  below signal (Some value) true less = less refl
  below signal value false less = tt

  input_has : (found : Option ℕ) (value : Option Bool) → IfOk (setting_of (input_in net found) value) IsOfInput
  input_has None value = tt
  input_has (Some signal) value = below signal value (nat_lt signal (input_count net)) (λ is. ltb-true signal (input_count net) is)

  setting_has : (word : List ℕ) → IfOk (setting_said net word) IsOfInput
  setting_has word =
      either_has IsOfInput (has_equals word) (setting_of (input_in net (number_named (signal_names net) (name_part word))) (truth_of (value_part word))) (Err K1)
      (input_has (number_named (signal_names net) (name_part word)) (truth_of (value_part word))) tt

  -- settings with one more after them
  push_has : (found : Result (List Setting) CaseRule) (next : Result Setting CaseRule) → IfOk found AreOfInputs → IfOk next IsOfInput → IfOk (and_then found next) AreOfInputs
  push_has (Ok settings) (Ok setting) before is = All-push IsOfInput settings setting before is
  push_has (Ok settings) (Err s) before is = tt
  push_has (Err r) (Ok setting) before is = tt
  push_has (Err r) (Err s) before is = tt

  found_has : (words : List (List ℕ)) (found : Result (List Setting) CaseRule) → IfOk found AreOfInputs → IfOk (fold (λ found word. and_then found (setting_said net word)) found words) AreOfInputs
  found_has [] found before = before
  found_has (word ∷ words) found before = found_has words (and_then found (setting_said net word)) (push_has found (setting_said net word) before (setting_has word))

  settings_have : (words : List (List ℕ)) → IfOk (settings_said net words) AreOfInputs
  settings_have words = found_has words (Ok []) (All-nil IsOfInput)

  -- what a line asks for has settings of inputs
  abbrev HasInputs : Deed × List Setting → Type 0
  HasInputs asked = AreOfInputs asked.1

  alone_has : (deed : Result Deed CaseRule) → IfOk (alone deed) HasInputs
  alone_has (Ok deed) = All-nil IsOfInput
  alone_has (Err rule) = tt

  both_have : (deed : Result Deed CaseRule) (settings : Result (List Setting) CaseRule) → IfOk settings AreOfInputs → IfOk (both deed settings) HasInputs
  both_have (Ok deed) (Ok settings) have = have
  both_have (Ok deed) (Err s) have = tt
  both_have (Err r) (Ok settings) have = tt
  both_have (Err r) (Err s) have = tt

  with_have : (deed : Result Deed CaseRule) (words : List (List ℕ)) → IfOk (with_settings net deed words) HasInputs
  with_have deed words = both_have deed (settings_said net words) (settings_have words)

  set_has : (words : List (List ℕ)) → IfOk (set_said net words) HasInputs
  set_has words = either_has HasInputs (is_none_left words) (Err K1) (with_settings net (Ok Set) words) tt (with_have (Ok Set) words)

  -- a deed that has settings of inputs, if it is one
  record Has (r : Result (Deed × List Setting) CaseRule) : Type 0 where
    ok : IfOk r HasInputs

  one_has : (b : Bool) (r s : Result (Deed × List Setting) CaseRule) → IfOk r HasInputs → Has s → Has (if b then r else s)
  one_has b r s first second = record { ok = either_has HasInputs b r s first second.ok }

  deed_has : (word : List ℕ) (words : List (List ℕ)) → IfOk (deed_said net word words) HasInputs
  deed_has word words =
      let none : Has (Err K1) = record { ok = tt } in
      let after = one_has (first_byte word == 43) (with_settings net (deed_with After (number_said (drop 1 word))) words) (Err K1) (with_have (deed_with After (number_said (drop 1 word))) words) none in
      let expect = one_has (bytes_eq word (codes "expect")) (alone (expect_said net words)) _ (alone_has (expect_said net words)) after in
      let fault = one_has (bytes_eq word (codes "fault")) (alone (fault_said words)) _ (alone_has (fault_said words)) expect in
      let restart = one_has (bytes_eq word (codes "restart")) (alone (restart_said words)) _ (alone_has (restart_said words)) fault in
      let every = one_has (bytes_eq word (codes "every")) (alone (behind_every words)) _ (alone_has (behind_every words)) restart in
      let at = one_has (bytes_eq word (codes "at")) (with_settings net (deed_with At (number_said (first_of words))) (others_of words)) _ (with_have (deed_with At (number_said (first_of words))) (others_of words)) every in
      (one_has (bytes_eq word (codes "set")) (set_said net words) _ (set_has words) at).ok

  -- so has what it says
  abbrev pub SaysInputs : Said → Type 0
  SaysInputs nothing = Unit {0}
  SaysInputs (begins name) = Unit {0}
  SaysInputs (asks deed settings) = AreOfInputs settings
  SaysInputs (breaks rule) = Unit {0}

  asked_has : (r : Result (Deed × List Setting) CaseRule) → IfOk r HasInputs → SaysInputs (asked r)
  asked_has (Ok both) has = has
  asked_has (Err rule) has = tt

  either_says : (b : Bool) (s t : Said) → SaysInputs s → SaysInputs t → SaysInputs (if b then s else t)
  either_says true s t first second = first
  either_says false s t first second = second

  words_have : (line : List ℕ) (words : List (List ℕ)) → SaysInputs (said_by_words net line words)
  words_have line [] = tt
  words_have line (word ∷ words) = either_says (bytes_eq word (codes "case")) (begins (case_name line)) (asked (deed_said net word words)) tt (asked_has (deed_said net word words) (deed_has word words))

  pub line_has : (line : List ℕ) → SaysInputs (line_said net line)
  line_has line = words_have line (words_in line)
