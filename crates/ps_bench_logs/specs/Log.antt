-- What a log means.
use Rattle.std.specs.Prelude.{ℕ, ◌+◌, Bool, true, false, List, [], ◌∷◌, Result, Ok, Err}
use Rattle.ps_lines.specs.Lines.{Line, lines_at}
use Rattle.ps_lines.specs.Lines.Line.{Kept, KeptLast, Long, Large}
use Rattle.ps_model.specs.Meaning.{Item}
use Rattle.ps_model.specs.Meaning.Item.{scan, restart}
use Rattle.ps_model.specs.Network.{Network}
use Rattle.ps_bench_logs.specs.Header.{Columns, header_said}
use Rattle.ps_bench_logs.specs.Rows.{Said, line_said}
use Rattle.ps_bench_logs.specs.Rows.Said.{skips, scans, breaks}
use Rattle.ps_bench_logs.specs.declared.flaw.Flaw.{Flaw}
use Rattle.ps_bench_logs.specs.declared.flaw.Flaw.TheVariants.{V1, V2, V3, V4}
use Rattle.ps_bench_logs.specs.declared.flaw.LogRefusal.{LogRefusal}
use Rattle.ps_bench_logs.specs.declared.limits.TheConstants.{LARGEST_LOG, LONGEST_LOG_LINE}

-- the number of a rule
abbrev pub rank : Flaw → ℕ
rank V1 = 1
rank (V2 column) = 2
rank V3 = 3
rank V4 = 4

-- how a log ends: whole, or at its first refused line
pub data End : Type 0 where
  whole : End
  refused : LogRefusal → End

-- the scans and restarts of a log up to its end or its first refused line
pub record Log : Type 0 where
  pub items : List Item
  pub end : End

-- a refusal at a line
abbrev pub at_line : Flaw → (number : ℕ) → LogRefusal
at_line flaw number = record { flaw = flaw; line = number }

-- what a line says: one that is too long is refused
abbrev pub said_of : Columns → (last : ℕ) → Line → Said
said_of columns last (Kept line) = line_said columns last line
said_of columns last (KeptLast line) = line_said columns last line
said_of columns last Long = breaks V1
said_of columns last Large = breaks V1

-- the time of the last scan, after a line
abbrev pub last_after : Said → ℕ → ℕ
last_after (scans now is_restarted ins) last = now
last_after _ last = last

-- a scan, and before it the restart after which it is the first
abbrev pub items_of : (now : ℕ) (is_restarted : Bool) (ins : List Bool) → List Item
items_of now true ins = restart ∷ scan now ins ∷ []
items_of now false ins = scan now ins ∷ []

-- these items in front of a log
abbrev pub before_log : List Item → Log → Log
before_log [] log = log
before_log (item ∷ items) log = record { items = item ∷ (before_log items log).items; end = log.end }

-- what a line with this number says, in front of what the later lines mean
abbrev pub onto_log : Said → (number : ℕ) → Log → Log
onto_log skips number later = later
onto_log (scans now is_restarted ins) number later = before_log (items_of now is_restarted ins) later
onto_log (breaks flaw) number later = record { items = []; end = refused (at_line flaw number) }

-- what the lines after the header mean
abbrev pub log_from : Columns → (number last : ℕ) → List Line → Log
log_from columns number last [] = record { items = []; end = whole }
log_from columns number last (line ∷ lines) =
    onto_log (said_of columns last line) number
    (log_from columns (number + 1) (last_after (said_of columns last line) last) lines)

-- what a line says as the header
abbrev pub header_of : Network → Line → Result Columns Flaw
header_of net (Kept line) = header_said net line
header_of net (KeptLast line) = header_said net line
header_of net Long = Err V1
header_of net Large = Err V1

-- what the first line says, which is the header
abbrev pub columns_of : Network → List Line → Result Columns Flaw
columns_of net [] = Err V1
columns_of net (line ∷ lines) = header_of net line

-- the lines after the header
abbrev pub rows_of : List Line → List Line
rows_of [] = []
rows_of (line ∷ lines) = lines

-- what rows mean after a header
abbrev pub log_behind : Result Columns Flaw → List Line → Log
log_behind (Ok columns) rows = log_from columns 2 0 rows
log_behind (Err flaw) rows = record { items = []; end = refused (at_line flaw 1) }

-- the lines of a log
abbrev pub log_lines : List ℕ → List Line
log_lines text = lines_at LARGEST_LOG LONGEST_LOG_LINE text 0

-- the columns of a log of an application
abbrev pub columns_in : Network → List ℕ → Result Columns Flaw
columns_in net text = columns_of net (log_lines text)

-- the items that a log means for an application, and its first refusal or "whole"
abbrev pub log_of : Network → List ℕ → Log
log_of net text = log_behind (columns_in net text) (rows_of (log_lines text))
