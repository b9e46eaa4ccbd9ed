-- Where no rule B is broken, each call of a derived instance has an argument for each input.
use Rattle.std.proofs.Common.{◌≡◌, Bool, true, false, not, ◌||◌, List, [], ◌∷◌, ◌++◌, Option, None, Some, map, is_some, refl, sym, cond}
use Rattle.std.specs.List.{flat_map, find, AllByRecursion}
use Rattle.std.proofs.lemmas.Bool.{false≢true}
use Rattle.ps_base.specs.declared.failing.Refusal.{Refusal}
use Rattle.ps_base.specs.declared.failing.Rule.TheVariants.{B3}
use Rattle.ps_parser.specs.declared.name.Name.{Name}
use Rattle.ps_parser.specs.declared.heads.Heads.{Heads}
use Rattle.ps_parser.specs.declared.heads.Heads.TheVariants.{Program, Block}
use Rattle.ps_parser.specs.Tree.{ArgumentTree, StatementTree, Assign, Call, SourceTree}
use Rattle.ps_names.specs.Offences.{offence, when}
use Rattle.ps_names.specs.Uses.{statement_uses, called}
use Rattle.ps_names.specs.Rules.{repeated}
use Rattle.ps_names.proofs.Distinct.{none_left, none_right}
use Rattle.ps_derived.specs.declared.declared.Declared.{Declared}
use Rattle.ps_derived.specs.declared.interface.Interface.{Interface}
use Rattle.ps_derived.specs.declared.library.Library.{Library}
use Rattle.ps_derived.specs.Bodies.{same, declared_names}
use Rattle.ps_derived.specs.Interfaces.{interface_of, derived_of}
use Rattle.ps_derived.specs.Giving.{HasArgument, HasArguments, GivesInputs, BodyGives, BlocksGive, EachCallGives}
use Rattle.ps_offences.specs.BlockRules.{typed_wrongly, misused, misgiven, is_one_of, leaves_out, miscalled, miscalled_by, called_wrongly, body_breaks, blocks_break, block_names, named_wrongly, text_too_large, block_offences}

given_one : (x : Name) (args : List ArgumentTree) → is_one_of (map (λ (a : ArgumentTree). a.pin) args) x ≡ true → HasArgument args x
given_one x [] h = h
given_one x (a ∷ args) h = by (same x a.pin) h (given_one x args)
  where
    by : (b : Bool) → (b || is_one_of (map (λ (c : ArgumentTree). c.pin) args) x) ≡ true → (is_one_of (map (λ (c : ArgumentTree). c.pin) args) x ≡ true → HasArgument args x) →
        is_some (cond b (Some a) (find (λ c. same x c.pin) args)) ≡ true
    by true e rest = refl
    by false e rest = rest e

none_out : (xs : List Name) (args : List ArgumentTree) → leaves_out xs (map (λ (a : ArgumentTree). a.pin) args) ≡ false → AllByRecursion (HasArgument args) xs
none_out [] args h = tt
none_out (x ∷ xs) args h = by (is_one_of (map (λ (a : ArgumentTree). a.pin) args) x) refl h (none_out xs args)
  where
    by : (b : Bool) → is_one_of (map (λ (a : ArgumentTree). a.pin) args) x ≡ b → (not b || leaves_out xs (map (λ (a : ArgumentTree). a.pin) args)) ≡ false →
        (leaves_out xs (map (λ (a : ArgumentTree). a.pin) args) ≡ false → AllByRecursion (HasArgument args) xs) → HasArgument args x × AllByRecursion (HasArgument args) xs
    by true e rest more = (given_one x args e, more rest)
    by false e rest more = absurd (false≢true (sym rest))

not_when : (b : Bool) (o : Refusal) → when b (o ∷ []) ≡ [] → b ≡ false
not_when true o h = cc
not_when false o h = refl

gives_all : (n : Name) (args : List ArgumentTree) (o : Option Interface) → miscalled n args o ≡ [] → HasArguments args o
gives_all n args None h = tt
gives_all n args (Some b) h =
    let pins = map (λ (a : ArgumentTree). a.pin) args in
    let left = leaves_out b.inputs pins in
    none_out b.inputs args (not_when left (offence B3 n.place) (none_right (repeated B3 [] pins ++ flat_map (misgiven b) args) (when left (offence B3 n.place ∷ [])) h))

gives_by : (before : List Interface) (ds : List Declared) (s : StatementTree) → miscalled_by before ds s ≡ [] → GivesInputs before ds s
gives_by before ds (Assign t s) h = tt
gives_by before ds (Call n args) h = gives_all n args (derived_of before ds n) h

gives_each : (before : List Interface) (ds : List Declared) (ss : List StatementTree) → flat_map (miscalled_by before ds) ss ≡ [] → AllByRecursion (GivesInputs before ds) ss
gives_each before ds [] h = tt
gives_each before ds (s ∷ ss) h = (
  gives_by before ds s (none_left (miscalled_by before ds s) (flat_map (miscalled_by before ds) ss) h),
  gives_each before ds ss (none_right (miscalled_by before ds s) (flat_map (miscalled_by before ds) ss) h),
)

-- a body that breaks no rule
body_gives : (names : List Name) (before : List Interface) (heads : Heads) (s : SourceTree) → body_breaks names before heads s ≡ [] → BodyGives before s
body_gives names before heads s h =
    let ds = declared_names s.sections in
    let types = flat_map (typed_wrongly heads names before) ds in
    let uses = flat_map (misused before ds) (flat_map statement_uses s.statements) in
    let calls = flat_map (miscalled_by before ds) s.statements in
    let counts = flat_map (called_wrongly before (flat_map called s.statements) (map (λ (d : Declared). d.name) ds)) ds in
    gives_each before ds s.statements (none_right (types ++ uses) calls (none_left (types ++ uses ++ calls) counts h))

blocks_give : (names : List Name) (before : List Interface) (bs : List SourceTree) → blocks_break names before bs ≡ [] → BlocksGive before bs
blocks_give names before [] h = tt
blocks_give names before (b ∷ bs) h =
    let here = body_breaks names before Block b in
    let rest = blocks_break names (before ++ interface_of b ∷ []) bs in
    (body_gives names before Block b (none_left here rest h), blocks_give names (before ++ interface_of b ∷ []) bs (none_right here rest h))

-- a text that breaks no rule
pub each_call_gives : (l : Library) → block_offences l ≡ [] → EachCallGives l
each_call_gives l h =
    let names = block_names l.blocks in
    let one = named_wrongly names in
    let two = blocks_break names [] l.blocks in
    let three = body_breaks names (map interface_of l.blocks) Program l.program in
    let up_to_three = none_left (one ++ two ++ three) (text_too_large l) h in
    record {
      blocks = blocks_give names [] l.blocks (none_right one two (none_left (one ++ two) three up_to_three));
      program = body_gives names (map interface_of l.blocks) Program l.program (none_right (one ++ two) three up_to_three);
    }
