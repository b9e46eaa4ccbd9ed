use Rattle.std.proofs.Common.{◌≡◌, ◌≤◌, ℕ, IsTrue, List, take}
use Rattle.ps_bench_trials.specs.Files.{AddsFiles}
use Rattle.ps_bench_trials.proofs.Behind.{names_in}
use Rattle.ps_bench_trials.proofs.adding.add_files.Given as goal

abbrev pub invariant-loop-place : goal.invariant-loop-place
invariant-loop-place g l =
    record {
      adds : IsTrue (g.F.Files.tells l.fn.files) →
          AddsFiles (g.F.Files.held l.fn.files) (names_in (take l.place l.names)) l.fn.total l.total;
      kept : g.F.Files.held l.files ≡ g.F.Files.held l.fn.files;
      reading : g.F.Files.tells l.files ≡ g.F.Files.tells l.fn.files;
      reads : (other : List ℕ) → g.F.Files.faults l.fn.files other ≤ g.F.Files.faults l.files other;
    }
