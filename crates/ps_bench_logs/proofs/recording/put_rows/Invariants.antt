use Rattle.std.proofs.Common.{◌≡◌, ◌≤◌, ◌+◌, ◌-◌, ℕ, List, IsTrue, Some, length}
use Rattle.ps_bench_cases.proofs.Pieces.{LeftOf}
use Rattle.ps_lines.specs.Reader.{IsReading, begin_of, left, limits_of, name_of}
use Rattle.ps_bench_logs.specs.Log.{log_from}
use Rattle.ps_bench_logs.specs.declared.limits.TheConstants.{LARGEST_LOG}
use Rattle.ps_outside.specs.Outside.{CountsStay}
use Rattle.ps_bench_logs.specs.Recording.{items_text}
use Rattle.ps_bench_logs.proofs.recording.put_rows.Given as goal

-- of the lines of all rows those that are left are not written
abbrev pub invariant-rows : goal.invariant-rows
invariant-rows g l = record {
  reads : IsTrue (g.F.Files.tells l.initial.files) → (text : List ℕ) → g.F.Files.held l.initial.files (name_of l.initial.lines) ≡ Some text →
      IsReading l.initial.lines text → IsReading l.lines text;
  wrote : IsTrue (g.F.Files.tells l.initial.files) → (text : List ℕ) → g.F.Files.held l.initial.files (name_of l.initial.lines) ≡ Some text →
      IsReading l.initial.lines text →
      LeftOf g.S.Sink.tells g.S.Sink.taken g.S.Sink.faults (items_text (log_from l.initial.table 2 0 (left l.initial.lines text)).items)
      (items_text (log_from l.initial.table l.number l.last (left l.lines text)).items) l.initial.out l.out;
  ends : IsTrue (g.F.Files.tells l.initial.files) → (text : List ℕ) → g.F.Files.held l.initial.files (name_of l.initial.lines) ≡ Some text →
      IsReading l.initial.lines text →
      (log_from l.initial.table 2 0 (left l.initial.lines text)).end ≡ (log_from l.initial.table l.number l.last (left l.lines text)).end;
  columns : l.table ≡ l.initial.table;
  size : length l.ins ≡ length l.initial.table.inputs;
  counted : l.number ≤ begin_of l.lines + 1;
  near : begin_of l.lines ≤ LARGEST_LOG;
  limited : (limits_of l.lines).largest ≡ LARGEST_LOG;
  named : name_of l.lines ≡ name_of l.initial.lines;
  exact : CountsStay (g.F.Files.faults l.initial.files) (g.F.Files.faults l.files);
  kept : g.F.Files.held l.files ≡ g.F.Files.held l.initial.files;
  telling : g.F.Files.tells l.files ≡ g.F.Files.tells l.initial.files;
  written : g.S.Sink.faults l.out ≡ g.S.Sink.faults l.initial.out;
  out_telling : g.S.Sink.tells l.out ≡ g.S.Sink.tells l.initial.out;
}

abbrev pub decreases-rows : goal.decreases-rows
decreases-rows g l = LARGEST_LOG + 1 - begin_of l.lines
