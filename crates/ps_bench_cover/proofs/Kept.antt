-- What is told is what the traces show, by what is kept.
use Rattle.std.proofs.Common.{◌≡◌, ◌∙◌, IsTrue, List, ℕ, map, Ok, inl, ap}
use Rattle.ps_cover.specs.Applying.{ScanStep}
use Rattle.ps_bench_frame.specs.Opening.{Source}
use Rattle.ps_bench_frame.specs.Sourcing.{IsSourceOf}
use Rattle.ps_bench_frame.specs.declared.answering.Answer.{Answer}
use Rattle.ps_cover.specs.Covering.{point_of}
use Rattle.ps_cover.specs.Listing.{points_of}
use Rattle.ps_cover.specs.Tallied.{IsUnseen, KnowsTraces}
use Rattle.ps_cover.specs.declared.cover.Cover.{Cover}
use Rattle.ps_cover.specs.Seen.{Known}
use Rattle.ps_cover.proofs.OfTraces.{known_is}
use Rattle.ps_parser.specs.Tree.{SourceTree}
use Rattle.ps_bench_cover.specs.Adding.{AreScansAll}
use Rattle.ps_bench_cover.specs.Asking.{IsKnown, Wanted}
use Rattle.ps_bench_cover.specs.Coming.{CoverOf}
use Rattle.ps_bench_cover.specs.Telling.{IsKept, TellsKept}

module _ (from : Source) (app : List ℕ) (wanted : Wanted) (tree : SourceTree) (begun total : Cover)
    (listed : map point_of begun.points.items ≡ points_of from.net) (unseen : IsUnseen begun)
    (there : IsTrue from.tells → IsSourceOf from.held app tree)
    (adds : IsTrue from.tells → (traces : List (List ScanStep)) × AreScansAll from wanted.traces traces × KnowsTraces from.net traces begun total) where
  -- what is kept is known of the traces
  kept_known : (known : Known) → IsKept from.net tree total known → IsKnown from app wanted.traces known
  kept_known known (rows, are, places, stand, is) = λ tells.
      let all = adds tells in
      let points : map point_of total.points.items ≡ points_of from.net = ap (map point_of) all.2.points ∙ listed in (
        all.0,
        all.1,
        rows,
        are,
        places,
        (tree, there tells, stand points),
        is ∙ known_is from.net all.0 begun total listed unseen all.2 rows places,
      )

  -- what is told of it is what the call comes to
  pub told_in : (answer : Answer) → TellsKept from.net tree total wanted answer → CoverOf from app wanted (Ok answer)
  told_in answer (known, kept, status, text) = inl (known, kept_known known kept, status, text)
