-- The case that is told is read as the scans that were found.
use Rattle.std.specs.Prelude.{◌≡◌, ◌≤◌, ◌<◌, ◌⊎◌, ◌==◌, ◌++◌, ◌&&◌, ◌||◌, ◌∷◌, [], ℕ, Bool, IfOk, Ok, Result, Some, true, not, List, codes, decimal, flat_map, if◌then◌else◌, length, nat_le, nat_lt, slice_get, slice_index_or}
use Rattle.std.specs.List.{All, list_all}
use Rattle.ps_base.specs.declared.limits.TheConstants.{LARGEST_TIME, LARGEST_TRACE}
use Rattle.ps_lexer.specs.Spelling.{continues_name}
use Rattle.ps_lines.specs.Lines.{RawLine, raw_lines}
use Rattle.ps_lines.specs.Lines.RawLine.{Ended, Last}
use Rattle.ps_model.specs.Meaning.{Item}
use Rattle.ps_model.specs.Meaning.Item.{restart, scan}
use Rattle.ps_model.specs.Network.{Network, input_count, names}
use Rattle.ps_model.specs.Sound.{IsSound}
use Rattle.ps_model.specs.declared.channel.ImageSizes.{ImageSizes}
use Rattle.ps_reach.specs.Asking.{at_first}
use Rattle.ps_reach.specs.Telling.{inputs_from, scans_at}
use Rattle.ps_reach.specs.Telling as paced
use Rattle.ps_reach.specs.declared.asked.Asked.{Asked}
use Rattle.ps_bench_names.specs.Titles.{is_case_name}
use Rattle.ps_bench_names.specs.Words.{before_blanks, behind_blanks}
use Rattle.ps_bench_names.specs.declared.name.Setting.{Setting}
use Rattle.ps_bench_cases.specs.Expanded.{header_line, name_line, restart_line}
use Rattle.ps_bench_cases.specs.Expanded as trace
use Rattle.ps_bench_cases.specs.File.{cases_of}
use Rattle.ps_bench_cases.specs.Line.{Said, check_said, line_said}
use Rattle.ps_bench_cases.specs.Line.Said.{asks, begins, breaks, nothing}
use Rattle.ps_bench_cases.specs.Meant.{items_of, set_by}
use Rattle.ps_bench_cases.specs.declared.case.Case.{Case}
use Rattle.ps_bench_cases.specs.declared.case.CaseFile.{CaseFile}
use Rattle.ps_bench_cases.specs.declared.case.Check.{Check}
use Rattle.ps_bench_cases.specs.declared.case.Check.TheVariants.{Among, Not}
use Rattle.ps_bench_cases.specs.declared.limits.TheConstants.{LARGEST_CASE_FILE, LONGEST_CASE_LINE, LONGEST_CASE_NAME, MOST_CASE_LINES}
use Rattle.ps_bench_cases.specs.declared.rule.CaseRefusal.{CaseRefusal}
use Rattle.ps_bench_rules.specs.declared.rules.Condition.{Condition}
use Rattle.ps_bench_rules.specs.declared.rules.Pace.TheVariants.{Every}
use Rattle.ps_bench_rules.specs.declared.rules.Purpose.TheVariants.{Never, Same}
use Rattle.ps_bench_rules.specs.declared.rules.Rule.{Rule}
use Rattle.ps_bench_rules.specs.declared.rules.RulesFile.{RulesFile}
use Rattle.ps_bench_rules.specs.File.{pace_of, rules_of}
use Rattle.ps_bench_frame.specs.Opening.{GivesNet}
use Rattle.ps_bench_never.specs.Asked.{IsAskedBy}
use Rattle.ps_bench_never.specs.SameAnswering.{AreAskedBy, no_settings}
use Rattle.ps_bench_never.specs.Casing.{case_text, has_times, scan_line}
use Rattle.ps_bench_never.specs.Pieces.{condition_word}
use Rattle.ps_bench_never.specs.SameTelling.{difference_case, output_text}

-- a byte of a name: no blank or control byte, and none of `#` and `=`
abbrev pub is_of_name : ℕ → Bool
is_of_name b = nat_lt 32 b && not (b == 35 || b == 61)

-- all names are of such bytes, as those of each application that is accepted
abbrev pub HasPlainNames : Network → Type 0
HasPlainNames net = All (λ name. list_all is_of_name name ≡ true) (names net)

-- what a line says that asks for the same, with these settings
abbrev pub with_these : List Setting → Said → Said
with_these settings (asks deed others) = asks deed settings
with_these settings nothing = nothing
with_these settings (begins name) = begins name
with_these settings (breaks rule) = breaks rule

-- A line of a case file is read as a scan so many ms after the one before, which `+GAP` alone asks for, with settings
-- that turn these inputs into those.
pub record IsReadAsScan (net : Network) (line : List ℕ) (gap : ℕ) (before values : List Bool) : Type 0 where
  pub settings : List Setting
  pub says : line_said net line ≡ with_these settings (line_said net (codes "+" ++ decimal gap))
  pub sets : set_by before settings ≡ values

-- A scan that is written after inputs, without its line feed, is read as this scan; the first one after inputs that are
-- all FALSE.
abbrev pub ScanIsRead : Type 0
ScanIsRead = (net : Network) → IsSound net → HasPlainNames net → (gap : ℕ) → gap ≤ LARGEST_TIME → (before values : List Bool) →
    length before ≡ input_count net → length values ≡ input_count net →
    IsReadAsScan net (scan_line net gap before values) gap before values

-- bytes end no line: none is below a space
abbrev pub is_one_line : List ℕ → Bool
is_one_line bytes = list_all (λ b. nat_le 32 b) bytes

-- the values of a condition are of 16 bits, as those of each rules file that is read
abbrev pub HasShortValues : Condition → Type 0
HasShortValues c = All (λ v. v < 65536) c.values

-- A case file is one case, which makes these scans and restarts.
pub record IsOneCaseOf (net : Network) (items : List Item) (file : CaseFile) : Type 0 where
  pub case : Case
  pub begin : file.begin ≡ []
  pub only : file.cases ≡ case ∷ []
  pub makes : items_of net case.statements ≡ items

-- The case that is written of scans some ms apart is read as these scans, from time 0 on, where the case file is not
-- refused: a case that is told may have more lines, bytes or scans than a case file may.
abbrev pub CaseIsRead : Type 0
CaseIsRead = (net : Network) (sizes : ImageSizes) → IsSound net → HasPlainNames net → (name : List ℕ) → is_one_line name ≡ true →
    (every : ℕ) → every ≤ LARGEST_TIME → (cs : List Condition) → All HasShortValues cs →
    (scans : List (List Bool)) → All (λ ins. length ins ≡ input_count net) scans →
    IfOk (cases_of net sizes (case_text net name every cs scans)) (IsOneCaseOf net (scans_at 0 every scans))

-- Scans come so many ms apart: as the file says, or as in the searches for cases where they come at any times.
abbrev pub IsPaceOf : RulesFile → ℕ → Type 0
IsPaceOf file every = (pace_of file ≡ Every every) ⊎ (every ≡ 10) ⊎ (every ≡ 100) ⊎ (every ≡ 1000)

-- So is the case that is told of a rule that fails, of an accepted application and a rules file that was read: it is
-- the list of scans that was found.
abbrev pub FoundIsRead : Type 0
FoundIsRead = (source : List ℕ) (net : Network) → GivesNet source net → (sizes : ImageSizes) →
    (text : List ℕ) (file : RulesFile) → rules_of net Never text ≡ Ok file → (every : ℕ) → IsPaceOf file every →
    (q : Asked) → IsAskedBy net file every q → (r : ℕ) (rule : Rule) → slice_get file.rules r ≡ Some rule →
    (path : List ℕ) →
    IfOk (cases_of net sizes (case_text net rule.name q.every rule.conditions (inputs_from net q (at_first net) path)))
    (IsOneCaseOf net (paced.items_of net q path))

-- the settings of a rules file of a comparison that was read, or of none
abbrev pub AreSettings : Network → RulesFile → Type 0
AreSettings net file = ((text : List ℕ) × (rules_of net Same text ≡ Ok file)) ⊎ (file ≡ no_settings)

-- So is the case that is told of two applications, the first of which is accepted: it is the list of scans after which
-- an output differs.
abbrev pub DifferenceIsRead : Type 0
DifferenceIsRead = (source : List ℕ) (net : Network) → GivesNet source net → (sizes : ImageSizes) → (other : Network) →
    (file : RulesFile) → AreSettings net file → (every : ℕ) → pace_of file ≡ Every every →
    (q : Asked) → AreAskedBy net other file every q → (path : List ℕ) (values : List Bool) (place : ℕ) →
    IfOk (cases_of net sizes (difference_case net q path values place)) (IsOneCaseOf net (paced.items_of net q path))

-- ---- What is told within the limits of a case file is not refused.

-- a byte of a name of an accepted application: a letter, a digit, `_` or a dot
abbrev pub is_name_byte : ℕ → Bool
is_name_byte b = continues_name b || b == 46

-- A name of an accepted application: one such byte or more.
pub record IsProper (name : List ℕ) : Type 0 where
  pub some : 0 < length name
  pub bytes : list_all is_name_byte name ≡ true

-- all names are so, as those of each application that is accepted
abbrev pub HasProperNames : Network → Type 0
HasProperNames net = All IsProper (names net)

-- a line is no longer than a line of a case file may be
abbrev pub IsShortLine : RawLine → Type 0
IsShortLine (Ended line) = length line ≤ LONGEST_CASE_LINE
IsShortLine (Last line) = length line ≤ LONGEST_CASE_LINE

-- the line of a scan or of a restart in a trace
abbrev pub item_line : Item → List ℕ
item_line (scan now ins) = trace.scan_line now ins
item_line restart = restart_line

-- the trace of one case of this name that makes these scans and restarts: its header, the name, and a line for each
abbrev pub trace_of : Network → (name : List ℕ) → List Item → List ℕ
trace_of net name items = header_line net ++ name_line name ++ flat_map item_line items

-- A text, which is a case of this name that makes these scans and restarts, is within the limits of a case file: it has
-- no more lines, none is longer, it is no larger, and its trace is no larger than a trace may be.
pub record IsWithinLimits (net : Network) (name : List ℕ) (items : List Item) (text : List ℕ) : Type 0 where
  pub few : length (raw_lines text) ≤ MOST_CASE_LINES
  pub short : All IsShortLine (raw_lines text)
  pub small : length text ≤ LARGEST_CASE_FILE
  pub traced : length (trace_of net name items) ≤ LARGEST_TRACE

-- A name may stand in a `case` line: it may be the name of a case, and no blank stands at its ends.
pub record IsTitle (name : List ℕ) : Type 0 where
  pub may : is_case_name name ≡ true
  pub short : length name ≤ LONGEST_CASE_NAME
  pub bare : before_blanks (behind_blanks name) ≡ name

-- what a condition says, as a check of a case: of the same name, and of the same values
abbrev pub check_of : Condition → Check
check_of c = if c.denied then Not c.name (slice_index_or c.values 0 0) else Among c.name c.values

-- a condition is read as this check, as it is written
abbrev pub IsReadAsCheck : Network → Condition → Type 0
IsReadAsCheck net c = check_said net (condition_word net c) ≡ Ok (check_of c)

-- A case file is not refused, and is one case that makes these scans and restarts.
pub record IsReadAs (net : Network) (items : List Item) (answer : Result CaseFile CaseRefusal) : Type 0 where
  pub file : CaseFile
  pub accepts : answer ≡ Ok file
  pub makes : IsOneCaseOf net items file

-- Each condition of a rules file that was read is written as it is read in a case, of an accepted application.
abbrev pub ConditionIsRead : Type 0
ConditionIsRead = (source : List ℕ) (net : Network) → GivesNet source net →
    (text : List ℕ) (file : RulesFile) → rules_of net Never text ≡ Ok file →
    All (λ (rule : Rule). All (IsReadAsCheck net) rule.conditions) file.rules

-- The case that is written of scans some ms apart is not refused within the limits of a case file, where its last scan
-- is not past the largest time, and its conditions are read as they are written.
abbrev pub CaseIsAccepted : Type 0
CaseIsAccepted = (net : Network) (sizes : ImageSizes) → IsSound net → HasProperNames net →
    (name : List ℕ) → IsTitle name → (every : ℕ) → every ≤ LARGEST_TIME →
    (cs : List Condition) → All HasShortValues cs → All (IsReadAsCheck net) cs →
    (scans : List (List Bool)) → All (λ ins. length ins ≡ input_count net) scans →
    has_times every (length scans) ≡ true →
    IsWithinLimits net name (scans_at 0 every scans) (case_text net name every cs scans) →
    IsReadAs net (scans_at 0 every scans) (cases_of net sizes (case_text net name every cs scans))

-- the case that is told of a rule by the scans with these numbers
abbrev pub found_case : Network → Asked → Rule → (path : List ℕ) → List ℕ
found_case net q rule path =
    case_text net rule.name q.every rule.conditions (inputs_from net q (at_first net) path)

-- So the case that is told of a rule that fails is not refused within these limits: it is told only where its last scan
-- is not past the largest time.
abbrev pub FoundIsAccepted : Type 0
FoundIsAccepted = (source : List ℕ) (net : Network) → GivesNet source net → (sizes : ImageSizes) →
    (text : List ℕ) (file : RulesFile) → rules_of net Never text ≡ Ok file → (every : ℕ) → IsPaceOf file every →
    (q : Asked) → IsAskedBy net file every q → (r : ℕ) (rule : Rule) → slice_get file.rules r ≡ Some rule →
    (path : List ℕ) → has_times q.every (length path) ≡ true →
    IsWithinLimits net rule.name (paced.items_of net q path) (found_case net q rule path) →
    IsReadAs net (paced.items_of net q path) (cases_of net sizes (found_case net q rule path))

-- the name of the case that is told of a difference at an output
abbrev pub difference_name : Network → (place : ℕ) → List ℕ
difference_name net place = output_text net place ++ codes " is as it was"

-- So is the case that is told of two applications, the first of which is accepted: after one scan or more, of an output
-- that there is.
abbrev pub DifferenceIsAccepted : Type 0
DifferenceIsAccepted = (source : List ℕ) (net : Network) → GivesNet source net → (sizes : ImageSizes) →
    (other : Network) (file : RulesFile) → AreSettings net file → (every : ℕ) → pace_of file ≡ Every every →
    (q : Asked) → AreAskedBy net other file every q → (path : List ℕ) → 0 < length path →
    has_times q.every (length path) ≡ true → (values : List Bool) (place : ℕ) → place < length net.outputs →
    IsWithinLimits net (difference_name net place) (paced.items_of net q path) (difference_case net q path values place) →
    IsReadAs net (paced.items_of net q path) (cases_of net sizes (difference_case net q path values place))
