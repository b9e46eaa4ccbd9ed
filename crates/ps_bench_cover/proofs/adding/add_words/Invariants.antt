use Rattle.std.proofs.Common.{◌≡◌, IsTrue, List, take}
use Rattle.ps_cover.specs.Applying.{ScanStep}
use Rattle.ps_bench_frame.specs.Opening.{source_of_call}
use Rattle.ps_bench_frame.specs.Seen.{Quiet}
use Rattle.ps_cover.specs.Tallied.{KnowsTraces}
use Rattle.ps_bench_cover.specs.Adding.{AreScansAll}
use Rattle.ps_bench_cover.proofs.Words.{words_in}
use Rattle.ps_bench_cover.proofs.adding.add_words.Given as goal

abbrev pub invariant-loop-word : goal.invariant-loop-word
invariant-loop-word g l =
    record {
      adds : IsTrue (g.C.Call.seen l.fn.call).files.tells → (traces : List (List ScanStep))
          × AreScansAll (source_of_call l.opened.app l.opened.sizes (g.C.Call.seen l.fn.call)) (words_in (take l.word-index l.words)) traces
          × KnowsTraces l.opened.app traces l.fn.total l.total;
      place : l.place ≡ l.word-index;
      quiet : Quiet (g.C.Call.seen l.fn.call) (g.C.Call.seen l.call);
    }
