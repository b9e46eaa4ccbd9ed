-- The trace of a log.
use Rattle.std.specs.Prelude.{◌≡◌, ℕ, List, [], ◌++◌, flat_map, Result, Ok, Err}
use Rattle.ps_bench_cases.specs.Expanded.{header_line, restart_line, scan_line}
use Rattle.ps_bench_cases.specs.Writing.{TookBeginning}
use Rattle.ps_bench_logs.specs.Header.{Columns}
use Rattle.ps_bench_logs.specs.Log.{End, columns_in, log_of}
use Rattle.ps_bench_logs.specs.Log.End.{whole, refused}
use Rattle.ps_bench_logs.specs.declared.flaw.Flaw.{Flaw}
use Rattle.ps_model.specs.Meaning.{Item}
use Rattle.ps_model.specs.Meaning.Item.{scan, restart}
use Rattle.ps_model.specs.Network.{Network}
use Rattle.ps_bench_logs.specs.declared.recording.RecordFail.{RecordFail}
use Rattle.ps_bench_logs.specs.declared.recording.RecordFail.TheVariants.{Memory, Fault, Unwritten, Refused}

-- the line of a scan or of a restart
abbrev pub item_line : Item → List ℕ
item_line (scan now ins) = scan_line now ins
item_line restart = restart_line

-- the lines of items
abbrev pub items_text : List Item → List ℕ
items_text items = flat_map item_line items

-- the trace of items: the header with the inputs in order of declaration, and a line for each item
abbrev pub trace_text : Network → List Item → List ℕ
trace_text net items = header_line net ++ items_text items

-- what is written of items, after what the header of a log says: nothing where that is refused
abbrev pub written_behind : Network → Result Columns Flaw → List Item → List ℕ
written_behind net (Ok columns) items = trace_text net items
written_behind net (Err flaw) items = []

-- what is written of a log: the trace of its items up to its end or its first refused line
abbrev pub log_trace : Network → (text : List ℕ) → List ℕ
log_trace net text = written_behind net (columns_in net text) (log_of net text).items

-- what a call leaves that is to write this, of a log that ends so: all was written, up to the end or to the refusal
-- that it answers, or else a beginning
abbrev pub Leaves : (whole_text : List ℕ) → End → (before after : List ℕ) → Result (Unit {0}) RecordFail → Type 0
Leaves whole_text end before after (Ok done) = (end ≡ whole) × (after ≡ before ++ whole_text)
Leaves whole_text end before after (Err (Refused refusal)) = (end ≡ refused refusal) × (after ≡ before ++ whole_text)
Leaves whole_text end before after (Err Memory) = TookBeginning before whole_text after
Leaves whole_text end before after (Err Fault) = TookBeginning before whole_text after
Leaves whole_text end before after (Err Unwritten) = TookBeginning before whole_text after

-- the log was read: an answer that neither a failed read nor running out of memory gives, nor a write that failed
abbrev pub IsRead : {A : Type 0} → Result A RecordFail → Type 0
IsRead (Ok done) = Unit {0}
IsRead (Err (Refused refusal)) = Unit {0}
IsRead (Err Memory) = ⊥
IsRead (Err Fault) = ⊥
IsRead (Err Unwritten) = Unit {0}
