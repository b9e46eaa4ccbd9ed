use Rattle.std.proofs.Common.{◌≡◌, List, length, take}
use Rattle.ps_bench_cover.specs.Leaving.{Stays, sides}
use Rattle.ps_bench_frame.specs.Opening.{source}
use Rattle.ps_bench_words.specs.Seen.{seen}
use Rattle.ps_bench_report.specs.Running.{ShowsFiles}
use Rattle.ps_bench_test.specs.Testing.{AreRanFiles, FileRan}
use Rattle.ps_bench_report.proofs.running.run_files.Given as goal

abbrev pub invariant-loop-name : goal.invariant-loop-name
invariant-loop-name g l =
    record {
      ran : (fs : List FileRan)
          × AreRanFiles (source l.bench.opened.now.app l.bench.opened.now.sizes (g.F.Files.tells l.fn.files) (g.F.Files.held l.fn.files)) l.bench.name.now (seen (take l.name-index l.names)) fs
          × ShowsFiles (source l.bench.opened.now.app l.bench.opened.now.sizes (g.F.Files.tells l.fn.files) (g.F.Files.held l.fn.files)) 0 (seen (take l.name-index l.names)) fs l.fn.pages l.pages
          × (length fs ≡ l.name-index);
      place : l.place ≡ l.name-index;
      unsaid : g.O.Sink.taken l.out ≡ g.O.Sink.taken l.fn.out;
      stays : Stays (sides (g.F.Files.tells l.fn.files) (g.F.Files.held l.fn.files) (g.F.Files.faults l.fn.files) (g.O.Sink.tells l.fn.out) (g.O.Sink.faults l.fn.out))
          (sides (g.F.Files.tells l.files) (g.F.Files.held l.files) (g.F.Files.faults l.files) (g.O.Sink.tells l.out) (g.O.Sink.faults l.out));
    }
