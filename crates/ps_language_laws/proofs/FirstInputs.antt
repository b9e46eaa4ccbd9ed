-- The inputs of a body are the names whose first declaration is one of VAR_INPUT, and none is an output.
use Rattle.std.proofs.Common.{◌≡◌, Bool, true, false, cond, List, [], ◌∷◌, ◌++◌, Option, None, Some, map, refl, sym, ap, subst, ◌∙◌, append_assoc, if◌then◌else◌}
use Rattle.std.specs.List.{find, list_any, AllByRecursion}
use Rattle.std.specs.Str.{bytes_eq}
use Rattle.std.proofs.lemmas.Bool.{false≢true, or_parts}
use Rattle.std.proofs.lemmas.List.{map-append}
use Rattle.std.proofs.lemmas.Slice.Eq.{bytes_eq-Decides}
use Rattle.ps_base.specs.LetterCase.{folded}
use Rattle.ps_parser.specs.declared.name.Name.{Name}
use Rattle.ps_parser.specs.declared.section.Part.{Part}
use Rattle.ps_parser.specs.declared.section.Part.TheVariants.{Input, Output, Local}
use Rattle.ps_names.proofs.Lists.{any_map}
use Rattle.ps_derived.specs.declared.declared.Declared.{Declared}
use Rattle.ps_derived.specs.Bodies.{same, is_input, is_output, is_among, first_declared, inputs_after, inputs}
use Rattle.ps_derived.specs.Interfaces.{is_in}

find_past : {X : Type 0} (p : X → Bool) (xs ys : List X) → list_any p xs ≡ false → find p (xs ++ ys) ≡ find p ys
find_past p [] ys h = refl
find_past p (x ∷ xs) ys h =
    let parts = or_parts (p x) (list_any p xs) h in
    ap (λ b. cond b (Some x) (find p (xs ++ ys))) parts.0 ∙ find_past p xs ys parts.1

-- the first declaration of a name is one of VAR_INPUT
abbrev pub IsInputOf : List Declared → Name → Type 0
IsInputOf ds x = is_in is_input (first_declared ds x) ≡ true

-- in a list that begins so
inputs_in : (before ds : List Declared) → AllByRecursion (IsInputOf (before ++ ds)) (inputs_after (map (λ (d : Declared). d.name) before) ds)
inputs_in before [] = tt
inputs_in before (d ∷ ds) =
    by (is_among (map (λ (e : Declared). e.name) before) d) d.part refl refl
    (subst (λ names. AllByRecursion (IsInputOf (before ++ d ∷ ds)) (inputs_after names ds)) (map-append (λ (e : Declared). e.name) before (d ∷ []))
    (subst (λ all. AllByRecursion (IsInputOf all) (inputs_after (map (λ (e : Declared). e.name) (before ++ d ∷ [])) ds)) (append_assoc before (d ∷ []) ds)
    (inputs_in (before ++ d ∷ []) ds)))
  where
    rest : List Name
    rest = inputs_after (map (λ (e : Declared). e.name) before ++ d.name ∷ []) ds

    own : is_among (map (λ (e : Declared). e.name) before) d ≡ false → d.part ≡ Input → IsInputOf (before ++ d ∷ ds) d.name
    own fresh input =
        ap (is_in is_input)
        (find_past (λ e. same d.name e.name) before (d ∷ ds) (sym (any_map (same d.name) (λ (e : Declared). e.name) before) ∙ fresh)
        ∙ ap (λ b. cond b (Some d) (first_declared ds d.name)) ((bytes_eq-Decides (folded d.name.text) (folded d.name.text)).1 refl))
        ∙ ap is_input input

    by : (again : Bool) (part : Part) → is_among (map (λ (e : Declared). e.name) before) d ≡ again → d.part ≡ part →
        AllByRecursion (IsInputOf (before ++ d ∷ ds)) rest →
        AllByRecursion (IsInputOf (before ++ d ∷ ds)) ((if again then [] else (if is_input part then d.name ∷ [] else [])) ++ rest)
    by true part a q h = h
    by false Input a q h = (own a q, h)
    by false Output a q h = h
    by false Local a q h = h

pub inputs_are : (ds : List Declared) → AllByRecursion (IsInputOf ds) (inputs ds)
inputs_are ds = inputs_in [] ds

-- an output is none of them
pub never_both : (ds : List Declared) (q x : Name) → folded q.text ≡ folded x.text → is_in is_output (first_declared ds q) ≡ true → IsInputOf ds x → ⊥
never_both ds q x one output input =
    by (first_declared ds x) (ap (λ t. is_in is_output (find (λ d. bytes_eq t (folded d.name.text)) ds)) (sym one) ∙ output) input
  where
    part_of : (p : Part) → is_output p ≡ true → is_input p ≡ true → ⊥
    part_of Input o i = false≢true o
    part_of Output o i = false≢true i
    part_of Local o i = false≢true o

    by : (o : Option Declared) → is_in is_output o ≡ true → is_in is_input o ≡ true → ⊥
    by None o i = false≢true o
    by (Some d) o i = part_of d.part o i
