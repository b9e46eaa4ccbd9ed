-- The inputs of a body, one more declared name after the other.
use Rattle.std.proofs.Common.{◌≡◌, Bool, List, [], ◌∷◌, ◌++◌, map, sym, ap, ◌∙◌, append_assoc, if◌then◌else◌}
use Rattle.std.proofs.lemmas.List.{append-nil}
use Rattle.ps_parser.specs.declared.name.Name.{Name}
use Rattle.ps_derived.specs.declared.declared.Declared.{Declared}
use Rattle.ps_derived.specs.Bodies.{is_input, is_among, inputs_after}

-- what a declared name adds
abbrev input_more : Bool → Declared → List Name
input_more again d = if again then [] else (if is_input d.part then d.name ∷ [] else [])

pub inputs_pushed : (before : List Name) (ds : List Declared) (d : Declared) →
    inputs_after before (ds ++ d ∷ []) ≡ inputs_after before ds ++ input_more (is_among (before ++ map (λ x. x.name) ds) d) d
inputs_pushed before [] d =
    append-nil (if is_among before d then [] else (if is_input d.part then d.name ∷ [] else []))
    ∙ ap (λ ns. input_more (is_among ns d) d) (sym (append-nil before))
inputs_pushed before (x ∷ ds) d =
    let here = if is_among before x then [] else (if is_input x.part then x.name ∷ [] else []) in
    let all : (before ++ x.name ∷ []) ++ map (λ y. y.name) ds ≡ before ++ (x.name ∷ map (λ y. y.name) ds) = append_assoc before (x.name ∷ []) (map (λ y. y.name) ds) in
    ap (λ l. here ++ l) (inputs_pushed (before ++ x.name ∷ []) ds d ∙ ap (λ ns. inputs_after (before ++ x.name ∷ []) ds ++ input_more (is_among ns d) d) all)
    ∙ sym (append_assoc here (inputs_after (before ++ x.name ∷ []) ds) (input_more (is_among (before ++ (x.name ∷ map (λ y. y.name) ds)) d) d))
