-- What a text breaks, body by body.
use Rattle.std.proofs.Common.{◌≡◌, List, [], ◌∷◌, ◌++◌, Option, None, Result, Ok, Err, IfOk, map, sym, ap, ◌∙◌, append_assoc}
use Rattle.std.specs.List.{flat_map}
use Rattle.std.proofs.lemmas.List.{append-nil}
use Rattle.ps_base.specs.declared.failing.Refusal.{Refusal}
use Rattle.ps_parser.specs.declared.name.Name.{Name}
use Rattle.ps_parser.specs.declared.heads.Heads.{Heads}
use Rattle.ps_parser.specs.declared.heads.Heads.TheVariants.{Program, Block}
use Rattle.ps_parser.specs.Tree.{StatementTree, SourceTree}
use Rattle.ps_names.specs.Offences.{noted, refused}
use Rattle.ps_names.specs.Uses.{statement_uses, called}
use Rattle.ps_names.proofs.NamesAgain.{noted_two}
use Rattle.ps_derived.specs.declared.declared.Declared.{Declared}
use Rattle.ps_derived.specs.declared.library.Library.{Library}
use Rattle.ps_derived.specs.Bodies.{declared_names}
use Rattle.ps_derived.specs.declared.interface.Interface.{Interface}
use Rattle.ps_derived.specs.Interfaces.{interface_of}
use Rattle.ps_offences.specs.BlockRules.{named_wrongly, typed_wrongly, misused, miscalled_by, called_wrongly, text_too_large, body_breaks, blocks_break, block_names, block_offences}

-- one more function block at the end
pub blocks_break_push : (names : List Name) (before : List Interface) (bs : List SourceTree) (b : SourceTree) →
    blocks_break names before (bs ++ b ∷ []) ≡ blocks_break names before bs ++ body_breaks names (before ++ map interface_of bs) Block b
blocks_break_push names before [] b = append-nil _ ∙ ap (λ i. body_breaks names i Block b) (sym (append-nil before))
blocks_break_push names before (x ∷ bs) b =
    ap (λ os. body_breaks names before Block x ++ os)
    (blocks_break_push names (before ++ interface_of x ∷ []) bs b ∙ ap (λ i. blocks_break names (before ++ interface_of x ∷ []) bs ++ body_breaks names i Block b) (append_assoc before (interface_of x ∷ []) (map interface_of bs)))
    ∙ sym (append_assoc (body_breaks names before Block x) (blocks_break names (before ++ interface_of x ∷ []) bs) _)

-- a result that is there keeps what follows from what it keeps
pub ok_then : {X E : Type 0} (P Q : X → Type 0) (r : Result X E) → ((x : X) → P x → Q x) → IfOk r P → IfOk r Q
ok_then P Q (Ok x) f h = f x h
ok_then P Q (Err e) f h = tt

-- what a body with these declared names and these statements breaks
abbrev breaks_with : List Name → List Interface → Heads → List Declared → List StatementTree → List Refusal
breaks_with names before heads ds ss =
    flat_map (typed_wrongly heads names before) ds
    ++ flat_map (misused before ds) (flat_map statement_uses ss)
    ++ flat_map (miscalled_by before ds) ss
    ++ flat_map (called_wrongly before (flat_map called ss) (map (λ (d : Declared). d.name) ds)) ds

-- what is noted of a body, rule by rule
pub body_noted : (names : List Name) (before : List Interface) (heads : Heads) (s source : SourceTree) (ds : List Declared) (ss : List StatementTree) (f0 f1 f2 f3 f4 : Option Refusal) →
    s ≡ source → ds ≡ declared_names s.sections → ss ≡ s.statements →
    f1 ≡ noted f0 (flat_map (typed_wrongly heads names before) ds) →
    f2 ≡ noted f1 (flat_map (misused before ds) (flat_map statement_uses ss)) →
    f3 ≡ noted f2 (flat_map (miscalled_by before ds) ss) →
    f4 ≡ noted f3 (flat_map (called_wrongly before (flat_map called ss) (map (λ (d : Declared). d.name) ds)) ds) →
    f4 ≡ noted f0 (body_breaks names before heads source)
body_noted names before heads s source ds ss f0 f1 f2 f3 f4 same e f a b c d =
    let types = flat_map (typed_wrongly heads names before) ds in
    let uses = flat_map (misused before ds) (flat_map statement_uses ss) in
    let calls = flat_map (miscalled_by before ds) ss in
    let counts = flat_map (called_wrongly before (flat_map called ss) (map (λ (x : Declared). x.name) ds)) ds in
    let two = noted_two f0 f1 f2 types uses a b in
    let three = noted_two f0 f2 f3 (types ++ uses) calls two c in
    noted_two f0 f3 f4 (types ++ uses ++ calls) counts three d
    ∙ ap (λ x. noted f0 (breaks_with names before heads x ss)) e
    ∙ ap (λ x. noted f0 (breaks_with names before heads (declared_names s.sections) x)) f
    ∙ ap (λ x. noted f0 (body_breaks names before heads x)) same

-- what is noted of a text, part by part
pub text_noted : (l : Library) (bs : List SourceTree) (before : List Interface) (f1 f2 f3 f4 : Option Refusal) → bs ≡ l.blocks → before ≡ map interface_of bs →
    f1 ≡ refused (named_wrongly (block_names bs)) →
    f2 ≡ noted f1 (blocks_break (block_names bs) [] bs) →
    f3 ≡ noted f2 (body_breaks (block_names bs) before Program l.program) →
    f4 ≡ noted f3 (text_too_large l) →
    f4 ≡ refused (block_offences l)
text_noted l bs before f1 f2 f3 f4 same known a b c d =
    let names = named_wrongly (block_names bs) in
    let blocks = blocks_break (block_names bs) [] bs in
    let program = body_breaks (block_names bs) (map interface_of bs) Program l.program in
    let two = noted_two None f1 f2 names blocks a b in
    let three = noted_two None f2 f3 (names ++ blocks) program two (c ∙ ap (λ i. noted f2 (body_breaks (block_names bs) i Program l.program)) known) in
    noted_two None f3 f4 (names ++ blocks ++ program) (text_too_large l) three d
    ∙ ap (λ x. refused (named_wrongly (block_names x) ++ blocks_break (block_names x) [] x ++ body_breaks (block_names x) (map interface_of x) Program l.program ++ text_too_large l)) same
