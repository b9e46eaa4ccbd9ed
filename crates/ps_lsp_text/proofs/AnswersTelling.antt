-- What the notice on a text tells.
use Rattle.std.proofs.Common.{◌≡◌, ◌∙◌, ◌+◌, ℕ, List, Option, Some, Result, Ok, Err, IfOk, take, sym, subst}
use Rattle.serde_json.specs.View.{view}
use Rattle.serde_json.specs.declared.value.Value.{Value}
use Rattle.ps_base.specs.declared.failing.Memory.{Memory}
use Rattle.ps_base.specs.declared.limits.TheConstants.{LARGEST_SOURCE}
use Rattle.ps_accepted.specs.Answering.{IsFrontOf}
use Rattle.ps_lsp_text.specs.Findings.{Diagnoses, all_of}
use Rattle.ps_lsp_text.specs.declared.finding.Findings.{Findings}
use Rattle.ps_lsp_text.specs.Published.{TellsOf, diagnostics_data, notice_data}

-- a notice of what is found in the front of a text tells of the text
pub tells_of : (uri text : List ℕ) (findings : Findings) (result : Result Value Memory) (before : List ℕ) →
    before ≡ take (LARGEST_SOURCE + 1) text →
    ((whole : List ℕ) → IsFrontOf before whole → Diagnoses before whole (all_of findings)) →
    IfOk result (λ v. view v ≡ notice_data uri (diagnostics_data (all_of findings))) →
    IfOk result (λ notice. TellsOf uri text (view notice))
tells_of uri text findings (Ok v) before same decides is = record {
  found = all_of findings;
  diagnoses = subst (λ (t : List ℕ). Diagnoses t text (all_of findings)) same (decides text same);
  is = is;
}
tells_of uri text findings (Err failed) before same decides is = tt

-- what is found in the text that is held is found in the text that it is known to be
pub found_in_held : (bytes : List ℕ) (seen : Option (List ℕ)) (result : Result Findings Memory) → Some bytes ≡ seen →
    IfOk result (λ findings. (whole : List ℕ) → IsFrontOf bytes whole → Diagnoses bytes whole (all_of findings)) →
    IfOk result (λ findings. (text whole : List ℕ) → seen ≡ Some text → IsFrontOf text whole → Diagnoses text whole (all_of findings))
found_in_held bytes seen (Ok findings) held told = λ text whole known front.
    let whole_of : Some bytes ≡ Some text = held ∙ known in
    let same : bytes ≡ text = cc in
    subst (λ (t : List ℕ). Diagnoses t whole (all_of findings)) same (told whole (subst (λ (t : List ℕ). IsFrontOf t whole) (sym same) front))
found_in_held bytes seen (Err failed) held told = tt
