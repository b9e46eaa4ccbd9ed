-- What is remarked of words that mean nothing.
use Rattle.std.proofs.Common.{◌≡◌, ℕ, List, Result, Ok, Err, IfErr, inl, inr, subst}
use Rattle.ps_edge.specs.Hearing.{ListenerSeen}
use Rattle.ps_bench_frame.specs.Opening.{Source}
use Rattle.ps_bench_messages.specs.Remarking.{HearsRemark, RemarksIf, no_name_text}
use Rattle.ps_bench_messages.proofs.Remarked.{remarks_weaker, weaker}
use Rattle.ps_bench_trace.specs.Remarking.{TellsNoCase}
use Rattle.ps_bench_watch.specs.Naming.{HasUnnamed}
use Rattle.ps_bench_watch.specs.Remarking.{TellsUnmeant}
use Rattle.ps_bench_watch.specs.Showing.{Wanted}

module _ (app : List ℕ) (wanted : Wanted) (from : Source) (who : ListenerSeen) (after : List ℕ) where
  -- that a word names nothing
  pub of_name : (word : List ℕ) → HasUnnamed from.net wanted.words word → HearsRemark (λ text. text ≡ no_name_text app word) who after →
      HearsRemark (TellsUnmeant app wanted from) who after
  of_name word unnamed heard =
      weaker (λ text. text ≡ no_name_text app word) (TellsUnmeant app wanted from) who after (λ text is. inl (word, unnamed, is)) heard

  -- that a line is in no case
  pub of_case : (IsSo : Type 0) → RemarksIf IsSo (TellsNoCase from wanted.trace) who after → RemarksIf IsSo (TellsUnmeant app wanted from) who after
  of_case IsSo remarks =
      remarks_weaker IsSo (TellsNoCase from wanted.trace) (TellsUnmeant app wanted from) who after (λ text is. inr is) remarks

-- what holds of an error holds of the one that is there
pub err_of : {X E : Type 0} (P : E → Type 0) (r : Result X E) (e : E) → r ≡ Err e → IfErr r P → P e
err_of P (Ok x) e is holds = cc
err_of P (Err d) e is holds = let same : d ≡ e = cc in subst P same holds
