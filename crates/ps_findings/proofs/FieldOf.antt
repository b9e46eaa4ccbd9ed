-- What is told of the field in which the reports first differ.
use Rattle.std.proofs.Common.{◌≡◌, ℕ, List, [], Option, Result, Ok, Err, IfOk, subst, sym}
use Rattle.ps_accepted.specs.Answering.{IsFrontOf}
use Rattle.ps_accepted.specs.Source.{IsResolvedAs, is_refused, stands_for}
use Rattle.ps_base.specs.declared.failing.Refusal.{Refusal}
use Rattle.ps_model.specs.Network.{Network}
use Rattle.ps_model.specs.declared.channel.Cause.{Cause}
use Rattle.ps_model.specs.declared.channel.Cause.TheVariants.{Differ}
use Rattle.ps_findings.specs.Fields.{IsFieldBy, IsFieldOf, field_text}

module _ (front : List ℕ) (cause : Cause) (field : ℕ) (values : Option (ℕ × ℕ)) (is : cause ≡ Differ field) where
  -- by the application
  pub of_app : {E : Type 0} (net : Network) (made : Result (List ℕ) E) → ((text : List ℕ) → IsFrontOf front text → IsResolvedAs text (stands_for net)) →
      IfOk made (λ bytes. bytes ≡ field_text net field values) → IfOk made (IsFieldBy front cause values)
  of_app net (Ok bytes) resolves told = λ text begins.
      subst (λ (c : Cause). IsFieldOf text c values bytes) (sym is) (stands_for net, resolves text begins, told)
  of_app net (Err e) resolves told = tt

  -- of a text that is refused
  pub of_refused : (refusal : Refusal) (bytes : List ℕ) → ((text : List ℕ) → IsFrontOf front text → IsResolvedAs text (is_refused refusal)) →
      bytes ≡ [] → IsFieldBy front cause values bytes
  of_refused refusal bytes refuses none = λ text begins.
      subst (λ (c : Cause). IsFieldOf text c values bytes) (sym is) (is_refused refusal, refuses text begins, none)
