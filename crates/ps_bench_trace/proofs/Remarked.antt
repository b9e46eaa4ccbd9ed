-- What is remarked of a word whose line is in no case.
use Rattle.std.proofs.Common.{◌≡◌, ℕ, List, Option, Some, None, Result, Ok, Err}
use Rattle.std.specs.Prelude.{IfNone}
use Rattle.ps_edge.specs.Hearing.{ListenerSeen}
use Rattle.ps_bench_cases.specs.declared.case.CaseFile.{CaseFile}
use Rattle.ps_bench_frame.specs.Opening.{IsOfText, Source}
use Rattle.ps_bench_frame.specs.Meant.{file_meant}
use Rattle.ps_bench_messages.specs.Remarking.{HearsRemark, RemarksIf}
use Rattle.ps_bench_messages.proofs.Remarked.{weaker}
use Rattle.ps_bench_trace.specs.Playing.{LacksCase}
use Rattle.ps_bench_trace.specs.Remarking.{TellsNoCase, TellsNoCaseOf, no_case_text}

-- what is told of the cases of a file is told of those of its text
pub by_text : (from : Source) (name word : List ℕ) (who : ListenerSeen) (after : List ℕ) (file : CaseFile) → IsOfText from name file →
    HearsRemark (λ text. text ≡ no_case_text word file) who after → HearsRemark (TellsNoCaseOf from name word) who after
by_text from name word who after file is heard =
    weaker (λ text. text ≡ no_case_text word file) (TellsNoCaseOf from name word) who after (λ text same. (file, is, same)) heard

module _ {X E : Type 0} (who : ListenerSeen) (after : List ℕ) (got : Result (Option X) E) where
  -- where no case has the line of a word it is told
  pub no_case : (from : Source) (word : List ℕ) (o : Option X) → got ≡ Ok o → o ≡ None → IfNone o (LacksCase from word) →
      RemarksIf (got ≡ Ok None) (TellsNoCaseOf from (file_meant word) word) who after → HearsRemark (TellsNoCase from word) who after
  no_case from word None is none lacks remarks =
      weaker (TellsNoCaseOf from (file_meant word) word) (TellsNoCase from word) who after (λ text tells. (lacks, tells)) (remarks.remarked is)
  no_case from word (Some x) is none lacks remarks = cc

  module _ (IsText : List ℕ → Type 0) where
    -- where there is something to run nothing is heard
    pub some_case : (o : Option X) (x : X) → got ≡ Ok o → o ≡ Some x → RemarksIf (got ≡ Ok None) IsText who after → after ≡ who.heard
    some_case o x is some remarks = remarks.silent (λ none. cc)

    -- nor where it stops
    pub no_play : (e : E) → got ≡ Err e → RemarksIf (got ≡ Ok None) IsText who after → after ≡ who.heard
    no_play e is remarks = remarks.silent (λ none. cc)
