use Rattle.std.proofs.Common.{◌≡◌, ◌≤◌, ◌++◌, ℕ, IsTrue, List, take}
use Rattle.ps_bench_words.specs.Seen.{seen}
use Rattle.ps_bench_test.specs.Outcome.{none_told}
use Rattle.ps_bench_test.specs.Testing.{AreRanFiles, FileRan, files_text, tally_of_files}
use Rattle.ps_bench_frame.specs.Opening.{source}
use Rattle.ps_bench_test.proofs.testing.test_files.Given as goal

abbrev pub invariant-loop-name : goal.invariant-loop-name
invariant-loop-name g l =
    record {
      ran : (fs : List FileRan)
          × AreRanFiles (source l.bench.opened.now.app l.bench.opened.now.sizes (g.F.Files.tells l.fn.files) (g.F.Files.held l.fn.files)) l.bench.name.now (seen (take l.name-index l.bench.names.now)) fs
          × (l.tally ≡ tally_of_files none_told fs)
          × (IsTrue (g.O.Sink.tells l.fn.out) → g.O.Sink.taken l.out ≡ g.O.Sink.taken l.fn.out ++ files_text l.bench.format none_told fs);
      kept : g.F.Files.held l.files ≡ g.F.Files.held l.fn.files;
      reading : g.F.Files.tells l.files ≡ g.F.Files.tells l.fn.files;
      reads : (other : List ℕ) → g.F.Files.faults l.fn.files other ≤ g.F.Files.faults l.files other;
      writes : g.O.Sink.faults l.fn.out ≤ g.O.Sink.faults l.out;
      telling : g.O.Sink.tells l.out ≡ g.O.Sink.tells l.fn.out;
      place : l.place ≡ l.name-index;
    }
