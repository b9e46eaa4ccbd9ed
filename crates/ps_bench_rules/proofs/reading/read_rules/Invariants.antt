use Rattle.std.proofs.Common.{◌≡◌, ◌≤◌, ◌<◌, ◌+◌, ◌-◌, ℕ, List, IsTrue, Some, IsSome}
use Rattle.ps_outside.specs.Outside.{CountsStay}
use Rattle.ps_lines.specs.Reader.{IsReading, left, begin_of, name_of, limits_of, read_of}
use Rattle.ps_bench_rules.specs.declared.limits.TheConstants.{LARGEST_RULES_FILE, MOST_RULES_LINES}
use Rattle.ps_bench_rules.specs.File.{rules_of, lines_read}
use Rattle.ps_bench_rules.proofs.Keeping.{Stands}
use Rattle.ps_bench_rules.proofs.reading.read_rules.Given as goal

abbrev pub invariant-lines : goal.invariant-lines
invariant-lines g l = record {
  reads : IsTrue (g.F.Files.tells l.initial.files) → (text : List ℕ) → g.F.Files.held l.initial.files l.name ≡ Some text → IsReading l.lines text;
  says : IsTrue (g.F.Files.tells l.initial.files) → (text : List ℕ) → g.F.Files.held l.initial.files l.name ≡ Some text →
      rules_of l.app l.purpose text ≡ lines_read l.app l.purpose l.draft l.number (left l.lines text);
  stands : Stands l.app l.purpose l.draft;
  found : IsTrue (g.F.Files.tells l.initial.files) → 0 < begin_of l.lines → IsSome (g.F.Files.held l.initial.files l.name);
  fresh : begin_of l.lines ≡ 0 → read_of l.lines ≡ 0;
  few : l.number ≤ MOST_RULES_LINES + 1;
  near : begin_of l.lines ≤ LARGEST_RULES_FILE;
  limited : (limits_of l.lines).largest ≡ LARGEST_RULES_FILE;
  named : name_of l.lines ≡ l.name;
  exact : CountsStay (g.F.Files.faults l.initial.files) (g.F.Files.faults l.files);
  kept : g.F.Files.held l.files ≡ g.F.Files.held l.initial.files;
  telling : g.F.Files.tells l.files ≡ g.F.Files.tells l.initial.files;
}

abbrev pub decreases-lines : goal.decreases-lines
decreases-lines g l = MOST_RULES_LINES + 2 - l.number
