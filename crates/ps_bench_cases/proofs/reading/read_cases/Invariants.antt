use Rattle.std.proofs.Common.{◌≡◌, ◌≤◌, ◌<◌, ◌+◌, ◌-◌, ℕ, List, IsTrue, Some, IsSome}
use Rattle.ps_outside.specs.Outside.{CountsStay}
use Rattle.ps_lines.specs.Reader.{IsReading, left, begin_of, name_of, limits_of, read_of}
use Rattle.ps_bench_cases.specs.declared.limits.TheConstants.{LARGEST_CASE_FILE, MOST_CASE_LINES}
use Rattle.ps_bench_cases.specs.DraftSays.{KeepsLimits}
use Rattle.ps_bench_cases.specs.File.{cases_of, lines_read}
use Rattle.ps_bench_cases.specs.Rooms.{HasRoom}
use Rattle.ps_bench_cases.proofs.RunningFiles.{CanRun}
use Rattle.ps_bench_cases.proofs.reading.read_cases.Given as goal

abbrev pub invariant-lines : goal.invariant-lines
invariant-lines g l = record {
  reads : IsTrue (g.F.Files.tells l.initial.files) → (text : List ℕ) → g.F.Files.held l.initial.files l.name ≡ Some text → IsReading l.lines text;
  says : IsTrue (g.F.Files.tells l.initial.files) → (text : List ℕ) → g.F.Files.held l.initial.files l.name ≡ Some text →
      cases_of l.app l.sizes text ≡ lines_read l.app l.sizes l.measured.draft l.number (left l.lines text);
  small : KeepsLimits l.measured.draft;
  run : CanRun l.app l.measured.draft;
  room : HasRoom l.app l.measured.draft l.measured.room;
  found : IsTrue (g.F.Files.tells l.initial.files) → 0 < begin_of l.lines → IsSome (g.F.Files.held l.initial.files l.name);
  fresh : begin_of l.lines ≡ 0 → read_of l.lines ≡ 0;
  few : l.number ≤ MOST_CASE_LINES + 1;
  near : begin_of l.lines ≤ LARGEST_CASE_FILE;
  limited : (limits_of l.lines).largest ≡ LARGEST_CASE_FILE;
  named : name_of l.lines ≡ l.name;
  exact : CountsStay (g.F.Files.faults l.initial.files) (g.F.Files.faults l.files);
  kept : g.F.Files.held l.files ≡ g.F.Files.held l.initial.files;
  telling : g.F.Files.tells l.files ≡ g.F.Files.tells l.initial.files;
}

abbrev pub decreases-lines : goal.decreases-lines
decreases-lines g l = MOST_CASE_LINES + 2 - l.number
