-- What is found in a text, by what the text gives.
use Rattle.std.proofs.Common.{◌≡◌, ◌++◌, ℕ, List, [], ◌∷◌, Result, Ok, Err, IfOk, subst, refl, ap}
use Rattle.ps_base.specs.declared.failing.Fail.{Fail}
use Rattle.ps_base.specs.declared.failing.Fail.TheVariants.{Refused}
use Rattle.ps_base.specs.declared.failing.Memory.{Memory}
use Rattle.ps_base.specs.declared.failing.Refusal.{Refusal}
use Rattle.ps_accepted.specs.Answering.{IsAcceptance, IsFrontOf, app_of, source_of}
use Rattle.ps_accepted.specs.Source.{IsProgram}
use Rattle.ps_accepted.specs.declared.accepting.Accepted.{Accepted}
use Rattle.ps_lexer.specs.declared.token.Token.{Token}
use Rattle.ps_model.specs.Network.{Network}
use Rattle.ps_names.specs.Stands.{Stands}
use Rattle.ps_parser.specs.Tree.{SourceTree}
use Rattle.ps_lsp_text.specs.Findings.{AreNoted, AreRefused, Diagnoses, TellEach, Tells, all_of}
use Rattle.ps_lsp_text.specs.declared.finding.Finding.{Finding}
use Rattle.ps_lsp_text.specs.declared.finding.Findings.{Findings}

-- what is found in a text that is refused is what its refusal gives, of every text that begins so
pub told : (text : List ℕ) (given : Result Accepted Fail) (refusal : Refusal) (result : Result Findings Memory) →
    ((whole : List ℕ) → IsFrontOf text whole → IsAcceptance whole given) → given ≡ Err (Refused refusal) →
    IfOk result (λ findings. AreRefused text refusal (all_of findings)) →
    IfOk result (λ findings. (whole : List ℕ) → IsFrontOf text whole → Diagnoses text whole (all_of findings))
told text given refusal (Ok findings) decides same found = λ whole front.
    (Err (Refused refusal), subst (λ (g : Result Accepted Fail). IsAcceptance whole g) same (decides whole front), found)
told text given refusal (Err failed) decides same found = tt

-- what is found in a text that is accepted is what its flat source and its application give
pub told_noted : (text : List ℕ) (given : Result Accepted Fail) (accepted : Accepted) (source : SourceTree) (net : Network)
    (result : Result Findings Memory) →
    ((whole : List ℕ) → IsFrontOf text whole → IsAcceptance whole given) → given ≡ Ok accepted →
    IsProgram text (source_of accepted) × Stands (source_of accepted) (app_of accepted) →
    source ≡ source_of accepted → net ≡ app_of accepted → IfOk result (λ findings. AreNoted text source net (all_of findings)) →
    IfOk result (λ findings. (whole : List ℕ) → IsFrontOf text whole → Diagnoses text whole (all_of findings))
told_noted text given accepted source net (Ok findings) decides same sourced from app found = λ whole front. (
  Ok accepted,
  subst (λ (g : Result Accepted Fail). IsAcceptance whole g) same (decides whole front),
  record {
    source = source_of accepted;
    program = sourced.0;
    stands = sourced.1;
    noted =
        subst (λ (n : Network). AreNoted text (source_of accepted) n (all_of findings)) app
        (subst (λ (t : SourceTree). AreNoted text t net (all_of findings)) from found);
  },
)
told_noted text given accepted source net (Err failed) decides same sourced from app found = tt

-- one more refusal is told, after what was told
pub tell_more : (text : List ℕ) (shown : List Token) (refusals : List Refusal) (refusal : Refusal) (found : List Finding) (finding : Finding) →
    TellEach text shown refusals found → Tells text shown refusal finding →
    TellEach text shown (refusals ++ refusal ∷ []) (found ++ finding ∷ [])
tell_more text shown [] refusal found finding told tells =
    (finding, [], ap (λ (f : List Finding). f ++ finding ∷ []) told, tells, refl)
tell_more text shown (first ∷ more) refusal found finding told tells = (
  told.0,
  told.1 ++ finding ∷ [],
  ap (λ (f : List Finding). f ++ finding ∷ []) told.2,
  told.3,
  tell_more text shown more refusal told.1 finding told.4 tells,
)
