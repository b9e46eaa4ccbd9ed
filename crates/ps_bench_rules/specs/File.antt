-- What a rules file says, or its first refusal.
use Rattle.std.specs.Prelude.{ℕ, ◌+◌, List, [], ◌∷◌, ◌++◌, Bool, true, false, not, ◌==◌, ◌||◌, nat_le, nat_lt, if◌then◌else◌}
use Rattle.std.specs.Prelude.{length, Option, Some, None, is_some, Result, Ok, Err}
use Rattle.std.specs.List.{list_any}
use Rattle.ps_lines.specs.Lines.{Line, lines_at}
use Rattle.ps_lines.specs.Lines.Line.{Kept, KeptLast, Long, Large}
use Rattle.ps_model.specs.Network.{Network}
use Rattle.ps_bench_names.specs.Titles.{is_case_name}
use Rattle.ps_bench_names.specs.declared.name.Setting.{Setting}
use Rattle.ps_bench_rules.specs.Line.{Said, line_said}
use Rattle.ps_bench_rules.specs.Line.Said.{nothing, paces, fixes, ties, starts, begins, asks, breaks}
use Rattle.ps_bench_rules.specs.declared.draft.Draft.{Draft}
use Rattle.ps_bench_rules.specs.declared.draft.Head.{Head}
use Rattle.ps_bench_rules.specs.declared.flaw.Flaw.{Flaw}
use Rattle.ps_bench_rules.specs.declared.flaw.Flaw.TheVariants.{R1, R4, R5}
use Rattle.ps_bench_rules.specs.declared.flaw.RulesRefusal.{RulesRefusal}
use Rattle.ps_bench_rules.specs.declared.limits.TheConstants.{LARGEST_RULES_FILE, LONGEST_RULES_LINE, LONGEST_RULE_NAME}
use Rattle.ps_bench_rules.specs.declared.limits.TheConstants.{MOST_RULES, MOST_RULES_LINES, USUAL_PACE}
use Rattle.ps_bench_rules.specs.declared.rules.Condition.{Condition}
use Rattle.ps_bench_rules.specs.declared.rules.Follow.{Follow}
use Rattle.ps_bench_rules.specs.declared.rules.Pace.{Pace}
use Rattle.ps_bench_rules.specs.declared.rules.Pace.TheVariants.{Every}
use Rattle.ps_bench_rules.specs.declared.rules.Purpose.{Purpose}
use Rattle.ps_bench_rules.specs.declared.rules.Purpose.TheVariants.{Never, Same}
use Rattle.ps_bench_rules.specs.declared.rules.RulesFile.{RulesFile}

-- how scans come, where a file says it, and else 10 ms apart
abbrev pub pace_or : Option Pace → Pace
pace_or None = Every USUAL_PACE
pace_or (Some pace) = pace

-- the pace of a rules file: the usual one where none stands in it
abbrev pub pace_of : RulesFile → Pace
pace_of file = pace_or file.pace

-- A `Draft` is a rules file as far as it was read: what stands before the last `never` line, this line, and the
-- conditions after it.

-- a refusal at a line
abbrev pub at : Flaw → ℕ → RulesRefusal
at flaw number = record { flaw = flaw; line = number }

-- before the first line
abbrev pub no_lines : Draft
no_lines = record {
  file = record { pace = None; fixed = []; follows = []; first = []; rules = []; end = 0 };
  head = None;
  conditions = [];
}

-- whether a rule has begun
abbrev pub has_begun : Draft → Bool
has_begun d = is_some d.head

-- ---- Settings.

-- whether an input stands after `fixed`, `follows` or `first`
abbrev pub stands : RulesFile → ℕ → Bool
stands file input =
    list_any (λ (s : Setting). s.input == input) file.fixed || list_any (λ (f : Follow). f.input == input) file.follows
    || list_any (λ (s : Setting). s.input == input) file.first

-- the draft of this file, before its first rule
abbrev pub with_file : Draft → RulesFile → Draft
with_file d file = record d { file = file }

-- how scans come is said once: R1
abbrev pub paced_after : Draft → (number : ℕ) → Pace → Result Draft RulesRefusal
paced_after d number pace =
    if is_some d.file.pace then Err (at R1 number)
    else Ok (with_file d (record (d.file) { pace = Some pace }))

-- one more input that never changes
abbrev pub with_fixed : RulesFile → Setting → RulesFile
with_fixed file s = record file { fixed = file.fixed ++ s ∷ [] }

-- one more input that follows a signal
abbrev pub with_follow : RulesFile → Follow → RulesFile
with_follow file f = record file { follows = file.follows ++ f ∷ [] }

-- one more value in a first scan
abbrev pub with_first : RulesFile → Setting → RulesFile
with_first file s = record file { first = file.first ++ s ∷ [] }

-- one more value in a first scan, or one that never changes
abbrev pub with_setting : (is_first : Bool) → RulesFile → Setting → RulesFile
with_setting true = with_first
with_setting false = with_fixed

-- settings come to a file one by one: R4 where the input stands already
abbrev pub settings_after : (RulesFile → Setting → RulesFile) → Draft → (number : ℕ) → List Setting →
    Result Draft RulesRefusal
settings_after with d number [] = Ok d
settings_after with d number (s ∷ settings) =
    if stands d.file s.input then Err (at R4 number)
    else settings_after with (with_file d (with d.file s)) number settings

-- an input that follows a signal: R4 where it stands already
abbrev pub tied_after : Draft → (number : ℕ) → Follow → Result Draft RulesRefusal
tied_after d number f =
    if stands d.file f.input then Err (at R4 number) else Ok (with_file d (with_follow d.file f))

-- ---- Rules.

-- the file with the rule that ends here, if one has begun
abbrev pub closed_by : RulesFile → Option Head → List Condition → RulesFile
closed_by file None conditions = file
closed_by file (Some head) conditions =
    record file { rules = file.rules ++ record { line = head.line; name = head.name; conditions = conditions } ∷ [] }

-- the file with the rule in it that is being read
abbrev pub closed : Draft → RulesFile
closed d = closed_by d.file d.head d.conditions

-- the rule that ends has no conditions, by its line: R1
abbrev pub bare_rule : Option Head → List Condition → Option RulesRefusal
bare_rule None conditions = None
bare_rule (Some head) [] = Some (at R1 head.line)
bare_rule (Some head) (c ∷ conditions) = None

-- the flaw of a rule of this name after so many others
abbrev pub rule_judged : (name : List ℕ) → (rules : ℕ) → Option Flaw
rule_judged name rules =
    if not (is_case_name name) then Some R1
    else if nat_lt LONGEST_RULE_NAME (length name) || nat_le MOST_RULES rules then Some R5
    else None

-- a rule begins, unless it has a flaw
abbrev pub rule_begun : Draft → (number : ℕ) → (name : List ℕ) → Option Flaw → Result Draft RulesRefusal
rule_begun d number name (Some flaw) = Err (at flaw number)
rule_begun d number name None =
    Ok record { file = closed d; head = Some record { line = number; name = name }; conditions = [] }

-- what comes unless the rule that ends is bare
abbrev pub unless_bare : {A : Type 0} → Option RulesRefusal → Result A RulesRefusal → Result A RulesRefusal
unless_bare (Some refusal) later = Err refusal
unless_bare None later = later

-- a rule begins by this name
abbrev pub rule_after : Draft → (number : ℕ) → (name : List ℕ) → Result Draft RulesRefusal
rule_after d number name =
    unless_bare (bare_rule d.head d.conditions) (rule_begun d number name (rule_judged name (length (closed d).rules)))

-- conditions of the rule that has begun
abbrev pub asked_after : Draft → List Condition → Draft
asked_after d conditions = record d { conditions = d.conditions ++ conditions }

-- ---- All lines.

-- the refusal of a file without a rule, where one is wanted, at the line after the last one: R1
abbrev pub wanted : Purpose → Option Head → (number : ℕ) → Option RulesRefusal
wanted Never None number = Some (at R1 number)
wanted Never (Some head) number = None
wanted Same head number = None

-- a file whose line after the last one has this number
abbrev pub ending_at : (number : ℕ) → RulesFile → RulesFile
ending_at number file = record file { end = number }

-- the end of the file, at the line after the last one
abbrev pub file_ended : Purpose → Draft → (number : ℕ) → Result RulesFile RulesRefusal
file_ended purpose d number =
    unless_bare (bare_rule d.head d.conditions)
    (unless_bare (wanted purpose d.head number) (Ok (ending_at number (closed d))))

-- what comes after something that was read, unless it was refused
abbrev pub unless_refused : {A B : Type 0} → Result A RulesRefusal → (A → Result B RulesRefusal) → Result B RulesRefusal
unless_refused (Err refusal) later = Err refusal
unless_refused (Ok a) later = later a

-- after a line with this number that says this
abbrev pub said_after : Draft → (number : ℕ) → Said → Result Draft RulesRefusal
said_after d number nothing = Ok d
said_after d number (paces pace) = paced_after d number pace
said_after d number (fixes settings) = settings_after with_fixed d number settings
said_after d number (ties follow) = tied_after d number follow
said_after d number (starts settings) = settings_after with_first d number settings
said_after d number (begins name) = rule_after d number name
said_after d number (asks conditions) = Ok (asked_after d conditions)
said_after d number (breaks flaw) = Err (at flaw number)

module _ (net : Network) (purpose : Purpose) where
  -- after a line of these bytes: one too many is not looked at
  abbrev pub bytes_after : Draft → (number : ℕ) → List ℕ → Result Draft RulesRefusal
  bytes_after d number line =
      if nat_lt MOST_RULES_LINES number then Err (at R5 number)
      else said_after d number (line_said net purpose (has_begun d) line)

  -- after a line: one that is too long is not looked at
  abbrev pub line_after : Draft → (number : ℕ) → Line → Result Draft RulesRefusal
  line_after d number (Kept line) = bytes_after d number line
  line_after d number (KeptLast line) = bytes_after d number line
  line_after d number Long = Err (at R5 number)
  line_after d number Large = Err (at R5 number)

  -- the lines from one with this number on, after those that were read
  abbrev pub lines_read : Draft → (number : ℕ) → List Line → Result RulesFile RulesRefusal
  lines_read d number [] = file_ended purpose d number
  lines_read d number (line ∷ lines) =
      unless_refused (line_after d number line) (λ behind. lines_read behind (number + 1) lines)

-- the lines of a rules file
abbrev pub rules_lines : List ℕ → List Line
rules_lines text = lines_at LARGEST_RULES_FILE LONGEST_RULES_LINE text 0

-- what a rules file says for an application: its settings and rules, or its first refusal
abbrev pub rules_of : Network → Purpose → List ℕ → Result RulesFile RulesRefusal
rules_of net purpose text = lines_read net purpose no_lines 1 (rules_lines text)
