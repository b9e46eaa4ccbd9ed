-- What was read of a rules file names what is of its application, line by line.
use Rattle.std.proofs.Common.{◌<◌, ◌+◌, ◌&&◌, ℕ, List, [], ◌∷◌, Bool, true, false, Option, Some, None, Result, Ok, Err, IfOk, IfSome, if◌then◌else◌, nat_lt, length, is_some, codes}
use Rattle.std.specs.List.{All}
use Rattle.std.specs.Str.{bytes_eq}
use Rattle.std.proofs.lemmas.List.Elements.{All-nil, All-head, All-tail, All-push, All-append}
use Rattle.ps_base.specs.LetterCase.{is_same_name}
use Rattle.ps_trace.specs.Faults.{first_of, others_of}
use Rattle.ps_model.specs.Network.{Network, declared_count, input_count}
use Rattle.ps_bench_names.specs.Names.{input_in, number_named, signal_names}
use Rattle.ps_bench_names.specs.Words.{is_none_left, words_in}
use Rattle.ps_bench_names.specs.declared.name.Setting.{Setting}
use Rattle.ps_bench_rules.specs.File.{at, bare_rule, closed, closed_by, ending_at, file_ended, no_lines, paced_after, rule_begun, said_after, settings_after, stands, tied_after, unless_bare, wanted, with_file, with_first, with_fixed, with_follow}
use Rattle.ps_bench_rules.specs.Line.{Said, follow_said, follow_of, follow_with, followed, is_setting, line_said, pace_said, rule_begins, said_by_words, said_or, setting_line, some_settings}
use Rattle.ps_bench_rules.specs.Line.Said.{nothing, paces, fixes, ties, starts, begins, asks, breaks}
use Rattle.ps_bench_rules.specs.Standing.{IsFollow, IsOfApplication, IsOfInput, IsOfName, IsOfNames}
use Rattle.ps_bench_rules.specs.Words.{conditions_said, settings_said}
use Rattle.ps_bench_rules.specs.declared.draft.Draft.{Draft}
use Rattle.ps_bench_rules.specs.declared.draft.Head.{Head}
use Rattle.ps_bench_rules.specs.declared.flaw.Flaw.{Flaw}
use Rattle.ps_bench_rules.specs.declared.flaw.Flaw.TheVariants.{R1, R4}
use Rattle.ps_bench_rules.specs.declared.flaw.RulesRefusal.{RulesRefusal}
use Rattle.ps_bench_rules.specs.declared.rules.Condition.{Condition}
use Rattle.ps_bench_rules.specs.declared.rules.Follow.{Follow}
use Rattle.ps_bench_rules.specs.declared.rules.Pace.{Pace}
use Rattle.ps_bench_rules.specs.declared.rules.Purpose.{Purpose}
use Rattle.ps_bench_rules.specs.declared.rules.Purpose.TheVariants.{Never, Same}
use Rattle.ps_bench_rules.specs.declared.rules.RulesFile.{RulesFile}
use Rattle.ps_bench_rules.proofs.Standing.{conditions_have, input_within, either_has, settings_have, signal_within}

module _ (net : Network) (purpose : Purpose) where
  -- what a line says names what is of the application
  abbrev pub SaysOf : Said → Type 0
  SaysOf nothing = Unit {0}
  SaysOf (paces pace) = Unit {0}
  SaysOf (fixes settings) = All (IsOfInput net) settings
  SaysOf (ties follow) = IsFollow net follow
  SaysOf (starts settings) = All (IsOfInput net) settings
  SaysOf (begins name) = Unit {0}
  SaysOf (asks conditions) = All (IsOfName net) conditions
  SaysOf (breaks flaw) = Unit {0}

  -- ---- Lines.

  said_or_has : {A : Type 0} (P : A → Type 0) (says : A → Said) (r : Result A Flaw) → ((a : A) → P a → SaysOf (says a)) → IfOk r P → SaysOf (said_or says r)
  said_or_has P says (Ok a) each has = each a has
  said_or_has P says (Err flaw) each has = tt

  followed_within : (purpose : Purpose) (found : Option ℕ) → IfSome found (λ s. s < declared_count net) → IfSome (followed net purpose found) (λ s. s < declared_count net)
  followed_within Never found has = has
  followed_within Same None has = tt
  followed_within Same (Some s) has = chosen (nat_lt s (input_count net + length net.outputs))
    where
      chosen : (b : Bool) → IfSome (if b then Some s else None) (λ s. s < declared_count net)
      chosen true = has
      chosen false = tt

  follow_with_has : (denied : Bool) (input signal : Option ℕ) → IfSome input (λ i. i < input_count net) → IfSome signal (λ s. s < declared_count net) →
      IfOk (follow_with denied input signal) (IsFollow net)
  follow_with_has denied (Some input) (Some signal) first second = record { input = first; signal = second }
  follow_with_has denied (Some input) None first second = tt
  follow_with_has denied None signal first second = tt

  follow_of_has : (denied : Bool) (input signal : List ℕ) → IfOk (follow_of net purpose denied input signal) (IsFollow net)
  follow_of_has denied input signal =
      follow_with_has denied (input_in net (number_named (signal_names net) input)) (followed net purpose (number_named (signal_names net) signal))
      (input_within net input) (followed_within purpose (number_named (signal_names net) signal) (signal_within net signal))

  follow_has : (words : List (List ℕ)) → IfOk (follow_said net purpose words) (IsFollow net)
  follow_has words =
      let two = others_of (others_of words) in
      let plain = follow_of net purpose false (first_of words) (first_of (others_of words)) in
      let denied = follow_of net purpose true (first_of words) (first_of two) in
      let has_not = is_same_name (first_of (others_of words)) (codes "NOT") && is_none_left (others_of two) in
      let third : IfOk (if has_not then denied else Err R1) (IsFollow net) =
      either_has (IsFollow net) has_not denied (Err R1) (follow_of_has true (first_of words) (first_of two)) tt in
      let second : IfOk (if is_none_left two then plain else (if has_not then denied else Err R1)) (IsFollow net) =
      either_has (IsFollow net) (is_none_left two) plain (if has_not then denied else Err R1) (follow_of_has false (first_of words) (first_of (others_of words))) third in
      either_has (IsFollow net) (is_none_left (others_of words)) (Err R1) (if is_none_left two then plain else (if has_not then denied else Err R1)) tt second

  some_have : (words : List (List ℕ)) → IfOk (some_settings net words) (All (IsOfInput net))
  some_have words = either_has (All (IsOfInput net)) (is_none_left words) _ (settings_said net words) tt (settings_have net words)

  either_says : (b : Bool) (s t : Said) → SaysOf s → SaysOf t → SaysOf (if b then s else t)
  either_says true s t first second = first
  either_says false s t first second = second

  setting_has : (word : List ℕ) (words : List (List ℕ)) → SaysOf (setting_line net purpose word words)
  setting_has word words =
      let pace = said_or paces (pace_said words) in
      let fix = said_or fixes (some_settings net words) in
      let tie = said_or ties (follow_said net purpose words) in
      let start = said_or starts (some_settings net words) in
      let is_fixed = bytes_eq word (codes "fixed") in
      let is_tied = bytes_eq word (codes "follows") in
      either_says (bytes_eq word (codes "every")) pace (if is_fixed then fix else (if is_tied then tie else start))
      (said_or_has (λ _. Unit {0}) paces (pace_said words) (λ _ _. tt) (pace_has (pace_said words)))
      (either_says is_fixed fix (if is_tied then tie else start)
      (said_or_has (All (IsOfInput net)) fixes (some_settings net words) (λ _ has. has) (some_have words))
      (either_says is_tied tie start
      (said_or_has (IsFollow net) ties (follow_said net purpose words) (λ _ has. has) (follow_has words))
      (said_or_has (All (IsOfInput net)) starts (some_settings net words) (λ _ has. has) (some_have words))))
    where
      pace_has : (r : Result Pace Flaw) → IfOk r (λ _. Unit {0})
      pace_has (Ok pace) = tt
      pace_has (Err flaw) = tt

  begins_has : (purpose : Purpose) (line : List ℕ) → SaysOf (rule_begins purpose line)
  begins_has Never line = tt
  begins_has Same line = tt

  words_have : (begun : Bool) (line : List ℕ) (words : List (List ℕ)) → SaysOf (said_by_words net purpose begun line words)
  words_have begun line [] = tt
  words_have begun line (word ∷ words) =
      let conditions = said_or asks (conditions_said net (word ∷ words)) in
      let setting = setting_line net purpose word words in
      let early = if begun then breaks R1 else setting in
      let late = if begun then conditions else breaks R1 in
      either_says (bytes_eq word (codes "never")) (rule_begins purpose line) (if is_setting word then early else late) (begins_has purpose line)
      (either_says (is_setting word) early late (either_says begun (breaks R1) setting tt (setting_has word words))
      (either_says begun conditions (breaks R1)
      (said_or_has (All (IsOfName net)) asks (conditions_said net (word ∷ words)) (λ _ has. has) (conditions_have net (word ∷ words))) tt))

  pub line_has : (begun : Bool) (line : List ℕ) → SaysOf (line_said net purpose begun line)
  line_has begun line = words_have begun line (words_in line)

  -- ---- Files.

  -- what was read names what is of the application
  pub record Stands (d : Draft) : Type 0 where
    pub file : IsOfApplication net d.file
    pub conditions : All (IsOfName net) d.conditions

  pub no_lines_stand : Stands no_lines
  no_lines_stand = record {
    file = record { fixed = All-nil (IsOfInput net); follows = All-nil (IsFollow net); first = All-nil (IsOfInput net); rules = All-nil (IsOfNames net) };
    conditions = All-nil (IsOfName net);
  }

  -- of two answers either has it
  either_ok : {A : Type 0} (P : A → Type 0) (b : Bool) (r s : Result A RulesRefusal) → IfOk r P → IfOk s P → IfOk (if b then r else s) P
  either_ok P true r s first second = first
  either_ok P false r s first second = second

  paced_stands : (d : Draft) (number : ℕ) (pace : Pace) → Stands d → IfOk (paced_after d number pace) Stands
  paced_stands d number pace s = chosen (is_some d.file.pace)
    where
      after : Draft
      after = with_file d record { pace = Some pace; fixed = d.file.fixed; follows = d.file.follows; first = d.file.first; rules = d.file.rules; end = d.file.end }

      paced : Stands after
      paced = record {
        file = record { fixed = s.file.fixed; follows = s.file.follows; first = s.file.first; rules = s.file.rules };
        conditions = s.conditions;
      }

      chosen : (b : Bool) → IfOk (if b then Err (at R1 number) else Ok after) Stands
      chosen true = tt
      chosen false = paced

  settings_stand : (with : RulesFile → Setting → RulesFile) → ((file : RulesFile) (s : Setting) → IsOfApplication net file → IsOfInput net s → IsOfApplication net (with file s)) →
      (settings : List Setting) (d : Draft) (number : ℕ) → Stands d → All (IsOfInput net) settings → IfOk (settings_after with d number settings) Stands
  settings_stand with each [] d number s have = s
  settings_stand with each (x ∷ settings) d number s have =
      either_ok Stands (stands d.file x.input) _ _ tt
      (settings_stand with each settings (with_file d (with d.file x)) number
      record { file = each d.file x s.file (All-head (IsOfInput net) x settings have); conditions = s.conditions }
      (All-tail (IsOfInput net) x settings have))

  fixed_stands : (file : RulesFile) (s : Setting) → IsOfApplication net file → IsOfInput net s → IsOfApplication net (with_fixed file s)
  fixed_stands file s has is = record { fixed = All-push (IsOfInput net) file.fixed s has.fixed is; follows = has.follows; first = has.first; rules = has.rules }

  first_stands : (file : RulesFile) (s : Setting) → IsOfApplication net file → IsOfInput net s → IsOfApplication net (with_first file s)
  first_stands file s has is = record { fixed = has.fixed; follows = has.follows; first = All-push (IsOfInput net) file.first s has.first is; rules = has.rules }

  tied_stands : (d : Draft) (number : ℕ) (f : Follow) → Stands d → IsFollow net f → IfOk (tied_after d number f) Stands
  tied_stands d number f s is = chosen (stands d.file f.input)
    where
      tied : Stands (with_file d (with_follow d.file f))
      tied = record {
        file = record { fixed = s.file.fixed; follows = All-push (IsFollow net) d.file.follows f s.file.follows is; first = s.file.first; rules = s.file.rules };
        conditions = s.conditions;
      }

      chosen : (b : Bool) → IfOk (if b then Err (at R4 number) else Ok (with_file d (with_follow d.file f))) Stands
      chosen true = tt
      chosen false = tied

  closed_stands : (head : Option Head) (file : RulesFile) (conditions : List Condition) → IsOfApplication net file → All (IsOfName net) conditions → IsOfApplication net (closed_by file head conditions)
  closed_stands None file conditions has each = has
  closed_stands (Some head) file conditions has each = record { fixed = has.fixed; follows = has.follows; first = has.first; rules = All-push (IsOfNames net) file.rules _ has.rules each }

  begun_stands : (d : Draft) (number : ℕ) (name : List ℕ) (flaw : Option Flaw) → Stands d → IfOk (rule_begun d number name flaw) Stands
  begun_stands d number name (Some flaw) s = tt
  begun_stands d number name None s = record { file = closed_stands d.head d.file d.conditions s.file s.conditions; conditions = All-nil (IsOfName net) }

  unless_stands : {A : Type 0} (P : A → Type 0) (refusal : Option RulesRefusal) (later : Result A RulesRefusal) → IfOk later P → IfOk (unless_bare refusal later) P
  unless_stands P (Some refusal) later has = tt
  unless_stands P None later has = has

  -- after a line
  pub said_stands : (d : Draft) (number : ℕ) (says : Said) → Stands d → SaysOf says → IfOk (said_after d number says) Stands
  said_stands d number nothing s has = s
  said_stands d number (paces pace) s has = paced_stands d number pace s
  said_stands d number (fixes settings) s has = settings_stand with_fixed fixed_stands settings d number s has
  said_stands d number (ties follow) s has = tied_stands d number follow s has
  said_stands d number (starts settings) s has = settings_stand with_first first_stands settings d number s has
  said_stands d number (begins name) s has = unless_stands Stands (bare_rule d.head d.conditions) _ (begun_stands d number name _ s)
  said_stands d number (asks conditions) s has = record { file = s.file; conditions = All-append (IsOfName net) d.conditions conditions s.conditions has }
  said_stands d number (breaks flaw) s has = tt

  ending_stands : (number : ℕ) (file : RulesFile) → IsOfApplication net file → IsOfApplication net (ending_at number file)
  ending_stands number file has = record { fixed = has.fixed; follows = has.follows; first = has.first; rules = has.rules }

  -- at the end
  pub ended_stands : (d : Draft) (number : ℕ) → Stands d → IfOk (file_ended purpose d number) (IsOfApplication net)
  ended_stands d number s =
      unless_stands (IsOfApplication net) (bare_rule d.head d.conditions) _
      (unless_stands (IsOfApplication net) (wanted purpose d.head number) _
      (ending_stands number (closed d) (closed_stands d.head d.file d.conditions s.file s.conditions)))
