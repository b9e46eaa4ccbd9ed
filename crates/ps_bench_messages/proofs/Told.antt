-- What is told of a call that stopped.
use Rattle.std.proofs.Common.{◌≡◌, ◌+◌, ℕ, List, Result, Ok, Err, IfOk, subst}
use Rattle.ps_base.specs.declared.failing.Refusal.{Refusal}
use Rattle.ps_base.specs.declared.limits.TheConstants.{LARGEST_SOURCE}
use Rattle.ps_bench_frame.specs.declared.ending.Input.{Input}
use Rattle.ps_edge.specs.Hearing.{IsFirst, ListenerSeen}
use Rattle.ps_edge.specs.Telling.{IsOfApp}
use Rattle.ps_message.specs.Message.{Says}
use Rattle.ps_bench_messages.specs.Telling.{IsAdvised, IsAdvisedAnew, IsOfInput, IsOfSource, IsReadAnew, Named, input_name}

module _ {E : Type 0} (who : ListenerSeen) where
  -- the message of a refusal of the application, by what was read of its text
  pub of_source : (name source shown : List ℕ) (refusal : Refusal) (made : Result (List ℕ) E) → shown ≡ source →
      IsFirst (LARGEST_SOURCE + 1) (who.reads name) source → IfOk made (λ text. IsOfApp name shown refusal text) →
      IfOk made (IsOfSource who name refusal)
  of_source name source shown refusal (Ok text) same first told =
      (source, first, subst (λ (s : List ℕ). IsOfApp name s refusal text) same told)
  of_source name source shown refusal (Err e) same first told = tt

  -- that of another text, by what was read of it
  pub of_text : (most : ℕ) (rule : List ℕ) (line : ℕ) (name file source shown : List ℕ) (made : Result (List ℕ) E) → file ≡ name → shown ≡ source →
      IsFirst most (who.reads name) source → IfOk made (λ text. IsAdvised rule line file shown text) →
      IfOk made (IsAdvisedAnew who most rule line name)
  of_text most rule line name file source shown (Ok text) named same first told =
      (source, first, subst (λ (f : List ℕ). IsAdvised rule line f source text) named (subst (λ (s : List ℕ). IsAdvised rule line file s text) same told))
  of_text most rule line name file source shown (Err e) named same first told = tt

  -- that of what a run is made of
  pub of_input : (names : Named) (input : Input) (refusal : Refusal) (file source shown given : List ℕ) (made : Result (List ℕ) E) →
      file ≡ input_name names input → shown ≡ source → IsReadAnew who names input source →
      IfOk made (λ text. Says file shown refusal given text) → IfOk made (IsOfInput who names input refusal)
  of_input names input refusal file source shown given (Ok text) named same read told = (
    source,
    given,
    read,
    subst (λ (f : List ℕ). Says f source refusal given text) named (subst (λ (s : List ℕ). Says file s refusal given text) same told),
  )
  of_input names input refusal file source shown given (Err e) named same read told = tt
