-- The fields of a line, one after another.
use Rattle.std.proofs.Common.{◌≡◌, ◌<◌, ◌+◌, ℕ, Bool, false, List, ◌∷◌, ◌++◌, length, drop, get_or, ap, sym, ◌∙◌, append_assoc}
use Rattle.std.specs.List.{flat_map}
use Rattle.std.proofs.lemmas.List.{drop_more, get_or-append-add, get_or_append_left}
use Rattle.ps_model.specs.declared.named.Signal.{Signal}
use Rattle.ps_model.specs.declared.named.Instance.{Instance}
use Rattle.ps_model.specs.declared.report.Diag.{Diag}
use Rattle.ps_model.specs.Blank.{no_diag}
use Rattle.ps_model.specs.Network.{Network, input_count, signal_name, no_signal, no_instance}
use Rattle.ps_report.specs.Lines.{named_value, named_diag, output_texts, instance_texts}

-- the name of output j
pub output_name : (net : Network) (j : ℕ) → j < length net.outputs → signal_name net (input_count net + j) ≡ (get_or net.outputs j no_signal).name
output_name net j h =
    ap (λ (s : Signal). s.name) (get_or-append-add net.inputs (net.outputs ++ net.locals) j no_signal ∙ get_or_append_left net.outputs net.locals no_signal j h)

-- the outputs from j on are output j and those after it
pub output_texts-drop : (outputs : List Signal) (values : List Bool) (j : ℕ) → j < length outputs → j < length values →
    output_texts (drop j outputs) (drop j values)
    ≡ named_value (get_or outputs j no_signal).name (get_or values j false) ++ output_texts (drop (j + 1) outputs) (drop (j + 1) values)
output_texts-drop outputs values j h k =
    ap (λ (os : List Signal). output_texts os (drop j values)) (drop_more outputs j no_signal h)
    ∙ ap (λ (vs : List Bool). output_texts (get_or outputs j no_signal ∷ drop (j + 1) outputs) vs) (drop_more values j false k)

pub instance_texts-drop : (instances : List Instance) (diags : List Diag) (j : ℕ) → j < length instances → j < length diags →
    instance_texts (drop j instances) (drop j diags)
    ≡ named_diag (get_or instances j no_instance).name (get_or diags j no_diag) ++ instance_texts (drop (j + 1) instances) (drop (j + 1) diags)
instance_texts-drop instances diags j h k =
    ap (λ (is : List Instance). instance_texts is (drop j diags)) (drop_more instances j no_instance h)
    ∙ ap (λ (ds : List Diag). instance_texts (get_or instances j no_instance ∷ drop (j + 1) instances) ds) (drop_more diags j no_diag k)

pub false_texts-drop : (outputs : List Signal) (j : ℕ) → j < length outputs →
    flat_map (λ o. named_value o.name false) (drop j outputs)
    ≡ named_value (get_or outputs j no_signal).name false ++ flat_map (λ o. named_value o.name false) (drop (j + 1) outputs)
false_texts-drop outputs j h = ap (λ (os : List Signal). flat_map (λ o. named_value o.name false) os) (drop_more outputs j no_signal h)

-- a field was written after what was written before, and these are left
pub field_written : (before after field rest left : List ℕ) → after ≡ before ++ field → left ≡ field ++ rest → after ++ rest ≡ before ++ left
field_written before after field rest left is all =
    ap (λ (t : List ℕ). t ++ rest) is ∙ append_assoc before field rest ∙ ap (λ (t : List ℕ). before ++ t) (sym all)
