-- What comes of a line of a log.
use Rattle.std.specs.Prelude.{◌≡◌, ℕ, Bool, true, false, List, [], Result, Ok, Err}
use Rattle.ps_bench_cases.specs.Expanded.{restart_line}
use Rattle.ps_bench_cases.specs.Writing.{FailedIn, WroteAll, WroteSome}
use Rattle.ps_bench_cases.specs.declared.expanding.ExpandFail.{ExpandFail}
use Rattle.ps_bench_cases.specs.declared.expanding.ExpandFail.TheVariants.{Memory as NoRoom, Fault as NoWrite}
use Rattle.ps_lines.specs.Lines as cut
use Rattle.ps_lines.specs.declared.reader.Got.{Got}
use Rattle.ps_lines.specs.declared.reader.Got.TheVariants.{Line, LastLine, TooLong, TooLarge, End}
use Rattle.ps_bench_logs.specs.Header.{Columns}
use Rattle.ps_bench_logs.specs.Log.{Log, at_line, columns_of, items_of, last_after, rows_of}
use Rattle.ps_bench_logs.specs.Rows.{Said}
use Rattle.ps_bench_logs.specs.Rows.Said.{skips, scans, breaks}
use Rattle.ps_bench_logs.specs.declared.flaw.Flaw.{Flaw}
use Rattle.ps_model.specs.Meaning.{Item}
use Rattle.ps_model.specs.Network.{Network}
use Rattle.ps_bench_logs.specs.Recording.{Leaves, items_text}
use Rattle.ps_bench_logs.specs.declared.recording.Turn.{Turn}
use Rattle.ps_bench_logs.specs.declared.recording.Turn.TheVariants.{Row, End as Over, Broken}
use Rattle.ps_bench_logs.specs.declared.recording.RecordFail.{RecordFail}
use Rattle.ps_bench_logs.specs.declared.recording.RecordFail.TheVariants.{Memory, Fault, Unwritten, Refused}

-- why a log is not written, where a write of its trace answers this
abbrev pub fail_of : ExpandFail → RecordFail
fail_of NoRoom = Memory
fail_of NoWrite = Unwritten

-- the line of a restart, where there is one
abbrev pub restart_text : Bool → List ℕ
restart_text true = restart_line
restart_text false = []

-- what a line is to a log, as it came
abbrev pub turn_of : Got → Turn
turn_of Line = Row
turn_of LastLine = Row
turn_of TooLong = Broken
turn_of TooLarge = Broken
turn_of End = Over

-- the items that a line means
abbrev pub said_items : Said → List Item
said_items skips = []
said_items (scans now is_restarted ins) = items_of now is_restarted ins
said_items (breaks flaw) = []

-- a line is not refused
abbrev pub IsKept : Said → Type 0
IsKept skips = Unit {0}
IsKept (scans now is_restarted ins) = Unit {0}
IsKept (breaks flaw) = ⊥

module _ {S : Type 0} (tells : S → Bool) (taken : S → List ℕ) (faults : S → ℕ) where
  -- What came of the line of this number that says this: its items were written, and its time is the last one; or it is
  -- refused, and nothing was; or a write did not all.
  abbrev pub Took : Said → (number last : ℕ) → (old new : S) → Result ℕ RecordFail → Type 0
  Took said number last old new (Ok now) =
      IsKept said × (now ≡ last_after said last) × WroteAll tells taken faults (items_text (said_items said)) old new
  Took said number last old new (Err (Refused refusal)) =
      (flaw : Flaw) × (said ≡ breaks flaw) × (refusal ≡ at_line flaw number) × (new ≡ old)
  Took said number last old new (Err Unwritten) =
      IsKept said × FailedIn tells taken faults (items_text (said_items said)) old new
  Took said number last old new (Err Memory) =
      IsKept said × WroteSome tells taken faults (items_text (said_items said)) old new
  Took said number last old new (Err Fault) = ⊥

-- what a call leaves that is to write the lines of these rows
abbrev pub LeavesRows : Log → (before after : List ℕ) → Result (Unit {0}) RecordFail → Type 0
LeavesRows log before after result = Leaves (items_text log.items) log.end before after result

-- what the first of these lines says as the header: its columns, with the others left, or a refusal at line 1
abbrev pub IsHeader : Network → List cut.Line → (others : List cut.Line) → Result Columns RecordFail → Type 0
IsHeader net lines others (Ok columns) = (columns_of net lines ≡ Ok columns) × (rows_of lines ≡ others)
IsHeader net lines others (Err (Refused refusal)) =
    (flaw : Flaw) × (columns_of net lines ≡ Err flaw) × (refusal ≡ at_line flaw 1)
IsHeader net lines others (Err Memory) = Unit {0}
IsHeader net lines others (Err Fault) = Unit {0}
IsHeader net lines others (Err Unwritten) = ⊥
