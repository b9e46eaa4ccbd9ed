-- What is remarked, and what is not.
use Rattle.std.proofs.Common.{◌≡◌, ◌⊎◌, ℕ, Bool, IsTrue, false, List, Option, Result, Ok, Err, IfOk, inl, inr, subst}
use Rattle.ps_bench_frame.specs.Opening.{IsOfApp, Source, source}
use Rattle.ps_bench_frame.specs.declared.ending.Status.{Status}
use Rattle.ps_bench_frame.specs.declared.ending.Status.TheVariants.{Done, Usage}
use Rattle.ps_bench_frame.specs.declared.ending.Stop.{Stop}
use Rattle.ps_edge.specs.Heard.{HearsText}
use Rattle.ps_edge.specs.Hearing.{ListenerSeen}
use Rattle.ps_message.specs.declared.statuses.TheConstants.{NO_MEMORY}
use Rattle.ps_model.specs.Network.{Network}
use Rattle.ps_model.specs.declared.channel.ImageSizes.{ImageSizes}
use Rattle.ps_bench_messages.specs.Remarking.{HearsRemark, RemarksIf, TellsOfApp}

module _ (IsSo : Type 0) (IsText : List ℕ → Type 0) (who : ListenerSeen) (after : List ℕ) where
  -- where it is so it is remarked
  pub so : IsSo → HearsRemark IsText who after → RemarksIf IsSo IsText who after
  so is heard = record { remarked = λ _. heard; silent = λ not. absurd (not is) }

  -- where it is not so nothing is heard
  pub not_so : ¬ IsSo → after ≡ who.heard → RemarksIf IsSo IsText who after
  not_so not same = record { remarked = λ is. absurd (not is); silent = λ _. same }

-- a text that is heard by what it is is heard by what that comes to
heard_weaker : (P Q : List ℕ → Type 0) (who : ListenerSeen) (after : List ℕ) → ((text : List ℕ) → P text → Q text) →
    HearsText (λ text. P text ⊎ (text ≡ NO_MEMORY.now)) who after ⊎ (IsTrue false × (after ≡ who.heard)) →
    HearsText (λ text. Q text ⊎ (text ≡ NO_MEMORY.now)) who after ⊎ (IsTrue false × (after ≡ who.heard))
heard_weaker P Q who after which (inl (text, inl is, heard)) = inl (text, inl (which text is), heard)
heard_weaker P Q who after which (inl (text, inr is, heard)) = inl (text, inr is, heard)
heard_weaker P Q who after which (inr is) = inr is

-- what is remarked by some texts is remarked by what these come to
pub weaker : (P Q : List ℕ → Type 0) (who : ListenerSeen) (after : List ℕ) → ((text : List ℕ) → P text → Q text) →
    HearsRemark P who after → HearsRemark Q who after
weaker P Q who after which heard = record {
  closed = heard.closed;
  quiet = heard.quiet;
  told = λ read loud. heard_weaker P Q who after which (heard.told read loud);
}

-- what is remarked is so by what the texts come to
pub remarks_weaker : (IsSo : Type 0) (P Q : List ℕ → Type 0) (who : ListenerSeen) (after : List ℕ) →
    ((text : List ℕ) → P text → Q text) → RemarksIf IsSo P who after → RemarksIf IsSo Q who after
remarks_weaker IsSo P Q who after which remarks = record {
  remarked = λ is. weaker P Q who after which (remarks.remarked is);
  silent = remarks.silent;
}

-- who is done does not end with Usage
pub not_usage : (ended : Result Status Stop) → IfOk ended (λ status. status ≡ Done) → ¬ (ended ≡ Ok Usage)
not_usage (Ok status) done is = cc
not_usage (Err stop) done is = cc

-- of what holds of a value the first part
pub first_of : {X E : Type 0} (P Q : X → Type 0) (r : Result X E) → IfOk r (λ x. P x × Q x) → IfOk r P
first_of P Q (Ok x) holds = holds.0
first_of P Q (Err e) holds = tt

-- what is remarked of an application that was opened, before and after that
pub of_app : (IsSo : Type 0) (Tells : Source → List ℕ → Type 0) (net : Network) (sizes : ImageSizes) (app : List ℕ) (reading reading' : Bool)
    (held held' : List ℕ → Option (List ℕ)) (who : ListenerSeen) (after : List ℕ) → reading' ≡ reading → held' ≡ held →
    IsOfApp (source net sizes reading held) app → RemarksIf IsSo (Tells (source net sizes reading' held')) who after →
    RemarksIf IsSo (TellsOfApp Tells app reading held) who after
of_app IsSo Tells net sizes app reading reading' held held' who after r_is h_is of remarks =
    remarks_weaker IsSo (Tells (source net sizes reading held)) (TellsOfApp Tells app reading held) who after
    (λ text tells. (net, sizes, of, tells))
    (subst (λ (r : Bool). RemarksIf IsSo (Tells (source net sizes r held)) who after) r_is
    (subst (λ (h : List ℕ → Option (List ℕ)). RemarksIf IsSo (Tells (source net sizes reading' h)) who after) h_is remarks))
