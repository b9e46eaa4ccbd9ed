-- What a case file says: its cases, or its first refusal.
use Rattle.std.specs.Prelude.{ℕ, ◌+◌, List, [], ◌∷◌, ◌++◌, not, ◌==◌, ◌||◌, nat_le, nat_lt, if◌then◌else◌, length}
use Rattle.std.specs.Prelude.{Option, Some, None, Result, Ok, Err}
use Rattle.ps_base.specs.declared.limits.TheConstants.{LARGEST_TIME, LARGEST_TRACE}
use Rattle.ps_lines.specs.Lines.{Line, lines_at}
use Rattle.ps_lines.specs.Lines.Line.{Kept, KeptLast, Long, Large}
use Rattle.ps_model.specs.declared.channel.ImageSizes.{ImageSizes}
use Rattle.ps_model.specs.Network.{Network}
use Rattle.ps_bench_cases.specs.declared.limits.TheConstants.{LARGEST_CASE_FILE, LONGEST_CASE_LINE, LONGEST_CASE_NAME}
use Rattle.ps_bench_cases.specs.declared.limits.TheConstants.{MOST_CASE_LINES, MOST_CASES, MOST_CASE_SCANS}
use Rattle.ps_bench_cases.specs.declared.rule.CaseRule.{CaseRule}
use Rattle.ps_bench_cases.specs.declared.rule.CaseRule.TheVariants.{K1, K4, K6, K7}
use Rattle.ps_bench_cases.specs.declared.rule.CaseRefusal.{CaseRefusal}
use Rattle.ps_bench_cases.specs.declared.case.Act.{Act}
use Rattle.ps_bench_names.specs.declared.name.Setting.{Setting}
use Rattle.ps_bench_cases.specs.declared.case.Statement.{Statement}
use Rattle.ps_bench_cases.specs.declared.case.CaseFile.{CaseFile}
use Rattle.ps_bench_cases.specs.declared.stand.Stand.{Stand}
use Rattle.ps_bench_cases.specs.declared.draft.Head.{Head}
use Rattle.ps_bench_cases.specs.declared.draft.Draft.{Draft}
use Rattle.ps_bench_cases.specs.declared.stand.Coming.{Coming}
use Rattle.ps_bench_cases.specs.Line.{Said, line_said}
use Rattle.ps_bench_names.specs.Titles.{is_case_name}
use Rattle.ps_bench_cases.specs.Line.Said.{nothing, begins, asks, breaks}
use Rattle.ps_bench_cases.specs.Stands.{deed_settled, stand_after, unless_over}
use Rattle.ps_bench_cases.specs.Expanded.{expanded}

-- A `Draft` is a case file as far as it was read: the cases that ended, the `case` line that was last, the statements
-- after it (or
-- before the first), how a case stands after the lines before the first (`start`), and how the one does that is read
-- (`stand`).

-- a refusal by a rule at a line
abbrev pub at : CaseRule → ℕ → CaseRefusal
at rule number = record { rule = rule; line = number }

-- before the first line
abbrev pub no_stand : Stand
no_stand =
    record { base = 0; origin = 0; time = 0; scans = 0; made = 0; faults = 0; struck = None; turn = 0; waiting = 0 }

-- a case file of which no line has been read
abbrev pub no_lines : Draft
no_lines = record {
  file = record { begin = []; cases = [] };
  head = None;
  statements = [];
  start = no_stand;
  stand = no_stand;
}

-- ---- A line that asks for something.

-- the statement of a line with this number stands after the others
abbrev pub stated : Draft → (number : ℕ) → List Setting → Act → Draft
stated d number settings act = record {
  file = d.file;
  head = d.head;
  start = d.start;
  statements = d.statements ++ record { line = number; settings = settings; act = act } ∷ [];
  stand = stand_after number d.stand act;
}

-- it does so unless it breaks a rule
abbrev pub act_after : Draft → (number : ℕ) → List Setting → Result Act CaseRule → Result Draft CaseRefusal
act_after d number settings (Err rule) = Err (at rule number)
act_after d number settings (Ok act) = Ok (stated d number settings act)

-- ---- A `case` line.

-- the file with the case that ends here, or with the lines before the first
abbrev pub closed_by : CaseFile → Option Head → List Statement → CaseFile
closed_by file None statements = record { begin = statements; cases = file.cases }
closed_by file (Some head) statements = record {
  begin = file.begin;
  cases = file.cases ++ record { line = head.line; name = head.name; statements = statements } ∷ [];
}

-- the file with the case in it that is being read
abbrev pub closed : Draft → CaseFile
closed d = closed_by d.file d.head d.statements

-- `Coming` says what the next case begins with: how many cases stand before it, when it begins in the expanded trace,
-- how many scans
-- these have made, and how a case stands after the lines before the first. The first one begins after these lines, a
-- later one after
-- the last scan of the case before it.
abbrev pub coming_by : Draft → Option Head → Coming
coming_by d None = record { cases = 0; base = 0; made = 0; start = d.stand }
coming_by d (Some head) = record {
  cases = length d.file.cases + 1;
  base = d.stand.base + d.stand.time;
  made = d.stand.made;
  start = d.start;
}

-- what the next case begins with, after the lines that were read
abbrev pub coming : Draft → Coming
coming d = coming_by d d.head

-- The stand of a case that begins at a line with this number: as after the lines before the first case, which are
-- copied to it. A fault of
-- these lines with no scan after it has the number of this line.
abbrev pub opened : (number : ℕ) → Coming → Stand
opened number c = record {
  base = c.base;
  origin = c.start.time;
  time = c.start.time;
  scans = c.start.scans;
  made = c.made + c.start.scans;
  faults = c.start.faults;
  struck = c.start.struck;
  turn = c.start.turn;
  waiting = if c.start.waiting == 0 then 0 else number;
}

-- the rule that refuses a case of this name
abbrev pub case_judged : (name : List ℕ) → Coming → Option CaseRule
case_judged name c =
    if not (is_case_name name) then Some K1
    else if nat_lt LARGEST_TIME (c.base + c.start.time) then Some K4
    else if nat_lt LONGEST_CASE_NAME (length name) || nat_le MOST_CASES c.cases
    || nat_lt MOST_CASE_SCANS (c.made + c.start.scans) then Some K7
    else None

-- a case begins, unless a rule refuses it
abbrev pub case_begun : Draft → (number : ℕ) → (name : List ℕ) → Coming → Option CaseRule → Result Draft CaseRefusal
case_begun d number name c (Some rule) = Err (at rule number)
case_begun d number name c None = Ok record {
  file = closed d;
  head = Some record { line = number; name = name };
  statements = [];
  start = c.start;
  stand = opened number c;
}

-- a fault of the case that ends has no scan after it, by its line: K6; the lines before the first case are none
abbrev pub fault_left : Option Head → ℕ → Option CaseRefusal
fault_left None line = None
fault_left (Some head) line = if line == 0 then None else Some (at K6 line)

-- what a `case` line does, unless the case that it ends is refused
abbrev pub unless_left : Option CaseRefusal → Result Draft CaseRefusal → Result Draft CaseRefusal
unless_left (Some refusal) draft = Err refusal
unless_left None draft = draft

-- a case begins by this name
abbrev pub case_after : Draft → (number : ℕ) → (name : List ℕ) → Result Draft CaseRefusal
case_after d number name =
    unless_left (fault_left d.head d.stand.waiting)
    (case_begun d number name (coming d) (case_judged name (coming d)))

-- ---- All lines.

-- the end of the file, at the line after the last one: there is a case, and in the last one no fault without a scan
-- after it
abbrev pub ended_by : (number : ℕ) → CaseFile → Option Head → Option CaseRefusal → Result CaseFile CaseRefusal
ended_by number file None left = Err (at K1 number)
ended_by number file (Some head) (Some refusal) = Err refusal
ended_by number file (Some head) None = Ok file

-- what a file means that ends after these lines: of a fault with no scan after it the refusal, else the cases
abbrev pub file_ended : Draft → (number : ℕ) → Result CaseFile CaseRefusal
file_ended d number = ended_by number (closed d) d.head (fault_left d.head d.stand.waiting)

-- what comes after something that was read, unless it was refused
abbrev pub unless_refused : {A B : Type 0} → Result A CaseRefusal → (A → Result B CaseRefusal) → Result B CaseRefusal
unless_refused (Err refusal) later = Err refusal
unless_refused (Ok a) later = later a

-- after a line with this number that says this
abbrev pub said_after : ImageSizes → Draft → (number : ℕ) → Said → Result Draft CaseRefusal
said_after sizes d number nothing = Ok d
said_after sizes d number (begins name) = case_after d number name
said_after sizes d number (asks deed settings) =
    act_after d number settings (unless_over d.stand (deed_settled sizes d.stand deed))
said_after sizes d number (breaks rule) = Err (at rule number)

-- a line with this number is refused after which the expanded trace of what was read is larger than a trace may be: K7
abbrev pub unless_large : Network → (number : ℕ) → Result Draft CaseRefusal → Result Draft CaseRefusal
unless_large net number (Err refusal) = Err refusal
unless_large net number (Ok d) =
    if nat_lt LARGEST_TRACE (length (expanded net (closed d))) then Err (at K7 number) else Ok d

module _ (net : Network) (sizes : ImageSizes) where
  -- after a line of these bytes: one too many is not looked at
  abbrev pub bytes_after : Draft → (number : ℕ) → List ℕ → Result Draft CaseRefusal
  bytes_after d number line =
      if nat_lt MOST_CASE_LINES number then Err (at K7 number)
      else unless_large net number (said_after sizes d number (line_said net line))

  -- after a line: one that is too long is not looked at
  abbrev pub line_after : Draft → (number : ℕ) → Line → Result Draft CaseRefusal
  line_after d number (Kept line) = bytes_after d number line
  line_after d number (KeptLast line) = bytes_after d number line
  line_after d number Long = Err (at K7 number)
  line_after d number Large = Err (at K7 number)

  -- the lines from one with this number on, after those that were read
  abbrev pub lines_read : Draft → (number : ℕ) → List Line → Result CaseFile CaseRefusal
  lines_read d number [] = file_ended d number
  lines_read d number (line ∷ lines) =
      unless_refused (line_after d number line) (λ behind. lines_read behind (number + 1) lines)

-- the lines of a case file
abbrev pub case_lines : List ℕ → List Line
case_lines text = lines_at LARGEST_CASE_FILE LONGEST_CASE_LINE text 0

-- what a case file says for an application with these regions: its cases, or its first refusal
abbrev pub cases_of : Network → ImageSizes → List ℕ → Result CaseFile CaseRefusal
cases_of net sizes text = lines_read net sizes no_lines 1 (case_lines text)
