-- What is remarked where nothing is asked for.
use Rattle.std.proofs.Common.{◌≡◌, ◌∙◌, ℕ, IsTrue, List, Some, None, inl, inr, sym}
use Rattle.ps_edge.specs.Hearing.{ListenerSeen}
use Rattle.ps_bench_frame.specs.Opening.{Source}
use Rattle.ps_bench_messages.specs.Remarking.{HearsRemark, RemarksIf, no_name_text}
use Rattle.ps_bench_messages.proofs.Remarked.{remarks_weaker, weaker}
use Rattle.ps_bench_trace.specs.Remarking.{TellsNoCase}
use Rattle.ps_bench_names.specs.Names.{name_of}
use Rattle.ps_bench_why.specs.Asking.{IsFoundAt, Wanted}
use Rattle.ps_bench_why.specs.Remarking.{TellsNoScan, TellsNoTime, TellsNothing, no_scan_text}
use Rattle.ps_bench_why.specs.Walked.{WalksWord}
use Rattle.ps_bench_why.specs.declared.looping.Met.{Met}
use Rattle.ps_bench_why.specs.declared.walker.Walker.{Walker}

-- where nothing is kept of a last scan, none was found
none_found : (from : Source) (word : List ℕ) (time : ℕ) (w : Walker) → w.last ≡ None → WalksWord from word time w → IsFoundAt from word time None
none_found from word time w none (None, at, last) = at
none_found from word time w none (Some s, at, look) =
    let no : None ≡ Some look.times.0 = sym none ∙ look.times.1 in cc

-- where nothing is kept of a last scan, it is told that there is none
pub no_scan : (from : Source) (wanted : Wanted) (w : Walker) (met : Met) (who : ListenerSeen) (after : List ℕ) →
    (IsTrue from.tells → WalksWord from wanted.trace wanted.time w) → w.last ≡ None →
    HearsRemark (λ text. text ≡ no_scan_text wanted.trace wanted.time met) who after → HearsRemark (TellsNoScan wanted from) who after
no_scan from wanted w met who after walks none heard =
    weaker (λ text. text ≡ no_scan_text wanted.trace wanted.time met) (TellsNoScan wanted from) who after
    (λ text is. (λ tells. none_found from wanted.trace wanted.time w none (walks tells), met, is)) heard

module _ (app : List ℕ) (wanted : Wanted) (from : Source) (who : ListenerSeen) (after : List ℕ) where
  -- that the name is none of the application
  pub of_name : name_of from.net wanted.name ≡ None → HearsRemark (λ text. text ≡ no_name_text app wanted.name) who after →
      HearsRemark (TellsNothing app wanted from) who after
  of_name none heard =
      weaker (λ text. text ≡ no_name_text app wanted.name) (TellsNothing app wanted from) who after (λ text is. inl (none, is)) heard

  -- that there is no such case or scan
  pub of_time : (IsSo : Type 0) → RemarksIf IsSo (TellsNoTime wanted from) who after → RemarksIf IsSo (TellsNothing app wanted from) who after
  of_time IsSo remarks = remarks_weaker IsSo (TellsNoTime wanted from) (TellsNothing app wanted from) who after (λ text is. inr is) remarks

module _ (wanted : Wanted) (from : Source) (who : ListenerSeen) (after : List ℕ) where
  -- that there is no such case
  pub of_case : HearsRemark (TellsNoCase from wanted.trace) who after → HearsRemark (TellsNoTime wanted from) who after
  of_case heard = weaker (TellsNoCase from wanted.trace) (TellsNoTime wanted from) who after (λ text is. inl is) heard

  -- that there is no such scan
  pub of_scan : (IsSo : Type 0) → RemarksIf IsSo (TellsNoScan wanted from) who after → RemarksIf IsSo (TellsNoTime wanted from) who after
  of_scan IsSo remarks = remarks_weaker IsSo (TellsNoScan wanted from) (TellsNoTime wanted from) who after (λ text is. inr is) remarks
