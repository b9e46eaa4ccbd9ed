-- Function blocks as they are laid flat, beside what they mean in the text.
use Rattle.std.proofs.Common.{◌≡◌, ◌↔◌, ℕ, Bool, true, false, cond, List, [], ◌∷◌, ◌++◌, Option, None, Some, refl, sym, ap, ◌∙◌}
use Rattle.std.proofs.lemmas.Slice.Eq.{bytes_eq-Decides}
use Rattle.ps_base.specs.LetterCase.{folded}
use Rattle.ps_parser.specs.declared.name.Name.{Name}
use Rattle.ps_parser.specs.declared.section.Part.{Part}
use Rattle.ps_parser.specs.declared.section.Part.TheVariants.{Input, Output, Local}
use Rattle.ps_derived.specs.declared.declared.Declared.{Declared}
use Rattle.ps_derived.specs.Bodies.{same, first_declared, inputs}
use Rattle.ps_derived.specs.Flat.{FlatBlock, DerivedInstance, block_in, instance_by, instance_if, instance_of}
use Rattle.ps_derived.specs.Flat as flat
use Rattle.ps_language_laws.specs.Reading.{Scan, Before}
use Rattle.ps_language_laws.specs.Equations.{Body, Callee, standard, derived, statements_leave, StatementsHold}
use Rattle.ps_language_laws.specs.TextScans.{plain}
use Rattle.ps_language_laws.specs.Nested.{chosen, block_named, callee_in, callee_of}

-- a copy drives, calls and says what the statements of its flat source do
pub record IsMeant (fb : FlatBlock) (b : Body) : Type 1 where
  pub name : fb.name ≡ b.name
  pub inputs_are : inputs fb.declared ≡ b.inputs
  pub leaves : (path : List ℕ) → b.leaves path ≡ statements_leave plain path fb.flat.statements
  pub holds : (scan : Scan) (path : List ℕ) (before : Before) → b.Holds scan path before ↔ StatementsHold plain path scan before fb.flat.statements

-- a function block laid flat, and what it means
pub record Pair : Type 1 where
  pub laid : FlatBlock
  pub body : Body
  pub meant : IsMeant laid body

-- those laid flat
abbrev pub laid_of : List Pair → List FlatBlock
laid_of [] = []
laid_of (p ∷ ps) = p.laid ∷ laid_of ps

-- their bodies
abbrev pub bodies : List Pair → List Body
bodies [] = []
bodies (p ∷ ps) = p.body ∷ bodies ps

pub laid_append : (ps qs : List Pair) → laid_of (ps ++ qs) ≡ laid_of ps ++ laid_of qs
laid_append [] qs = refl
laid_append (p ∷ ps) qs = ap (λ l. p.laid ∷ l) (laid_append ps qs)

pub bodies_append : (ps qs : List Pair) → bodies (ps ++ qs) ≡ bodies ps ++ bodies qs
bodies_append [] qs = refl
bodies_append (p ∷ ps) qs = ap (λ l. p.body ∷ l) (bodies_append ps qs)

-- ---- by a type

-- nothing, or a function block
pub data Looked : Type 1 where
  nothing : Looked
  found : Pair → Looked

abbrev pub laid_there : Looked → Option FlatBlock
laid_there nothing = None
laid_there (found p) = Some p.laid

abbrev pub callee_there : Looked → Callee
callee_there nothing = standard
callee_there (found p) = derived p.body

abbrev pub either : Bool → Looked → Looked → Looked
either true a b = a
either false a b = b

-- the first with a name
abbrev pub look_named : List Pair → Name → Looked
look_named [] ty = nothing
look_named (p ∷ ps) ty = either (same ty p.laid.name) (found p) (look_named ps ty)

abbrev pub look_in : List Pair → Part → Name → Looked
look_in ps Local ty = look_named ps ty
look_in ps _ ty = nothing

laid_either : (b : Bool) (p : Pair) (a : Looked) → cond b (Some p.laid) (laid_there a) ≡ laid_there (either b (found p) a)
laid_either true p a = refl
laid_either false p a = refl

callee_either : (b : Bool) (p : Pair) (a : Looked) → chosen b (derived p.body) (callee_there a) ≡ callee_there (either b (found p) a)
callee_either true p a = refl
callee_either false p a = refl

laid_named : (ps : List Pair) (ty : Name) → flat.block_named (laid_of ps) ty ≡ laid_there (look_named ps ty)
laid_named [] ty = refl
laid_named (p ∷ ps) ty = ap (λ o. cond (same ty p.laid.name) (Some p.laid) o) (laid_named ps ty) ∙ laid_either (same ty p.laid.name) p (look_named ps ty)

callee_named : (ps : List Pair) (ty : Name) → block_named (bodies ps) ty ≡ callee_there (look_named ps ty)
callee_named [] ty = refl
callee_named (p ∷ ps) ty =
    ap (λ n. chosen (same ty n) (derived p.body) (block_named (bodies ps) ty)) (sym p.meant.name)
    ∙ ap (chosen (same ty p.laid.name) (derived p.body)) (callee_named ps ty) ∙ callee_either (same ty p.laid.name) p (look_named ps ty)

pub laid_in : (ps : List Pair) (part : Part) (ty : Name) → block_in (laid_of ps) part ty ≡ laid_there (look_in ps part ty)
laid_in ps Input ty = refl
laid_in ps Output ty = refl
laid_in ps Local ty = laid_named ps ty

pub callee_is : (ps : List Pair) (part : Part) (ty : Name) → callee_in (bodies ps) part ty ≡ callee_there (look_in ps part ty)
callee_is ps Input ty = refl
callee_is ps Output ty = refl
callee_is ps Local ty = callee_named ps ty

-- ---- by a name of a body

-- no derived instance, or one with its name as it is declared
pub data Seen (n : Name) : Type 1 where
  no_instance : Seen n
  instance : (g : Name) → folded g.text ≡ folded n.text → Pair → Seen n

abbrev pub instance_there : (n : Name) → Seen n → Option DerivedInstance
instance_there n no_instance = None
instance_there n (instance g is p) = Some (record { name = g; block = p.laid })

abbrev pub callee_seen : (n : Name) → Seen n → Callee
callee_seen n no_instance = standard
callee_seen n (instance g is p) = derived p.body

abbrev pub seen_as : (n g : Name) → folded g.text ≡ folded n.text → Looked → Seen n
seen_as n g is nothing = no_instance
seen_as n g is (found p) = instance g is p

-- what a name is that has this declaration, or is declared later
abbrev pub seen_if : (n : Name) (d : Declared) (b : Bool) → same n d.name ≡ b → Looked → Seen n → Seen n
seen_if n d true is here later = seen_as n d.name (sym ((bytes_eq-Decides (folded n.text) (folded d.name.text)).0 is)) here
seen_if n d false is here later = later

abbrev pub seen : List Pair → List Declared → (n : Name) → Seen n
seen ps [] n = no_instance
seen ps (d ∷ ds) n = seen_if n d (same n d.name) refl (look_in ps d.part d.ty) (seen ps ds n)

module _ (ps : List Pair) (n : Name) where
  instance_as : (d : Declared) (is : folded d.name.text ≡ folded n.text) (a : Looked) → instance_by d (laid_there a) ≡ instance_there n (seen_as n d.name is a)
  instance_as d is nothing = refl
  instance_as d is (found p) = refl

  callee_as : (g : Name) (is : folded g.text ≡ folded n.text) (a : Looked) → callee_there a ≡ callee_seen n (seen_as n g is a)
  callee_as g is nothing = refl
  callee_as g is (found p) = refl

  pub instance_is : (ds : List Declared) → instance_of (laid_of ps) ds n ≡ instance_there n (seen ps ds n)
  instance_is [] = refl
  instance_is (d ∷ ds) = by (same n d.name) refl (instance_is ds)
    where
      by : (b : Bool) (is : same n d.name ≡ b) → instance_of (laid_of ps) ds n ≡ instance_there n (seen ps ds n) →
          instance_if (laid_of ps) (cond b (Some d) (first_declared ds n)) ≡ instance_there n (seen_if n d b is (look_in ps d.part d.ty) (seen ps ds n))
      by true is rest =
          ap (instance_by d) (laid_in ps d.part d.ty)
          ∙ instance_as d (sym ((bytes_eq-Decides (folded n.text) (folded d.name.text)).0 is)) (look_in ps d.part d.ty)
      by false is rest = rest

  pub callee_of_is : (ds : List Declared) → callee_of (bodies ps) ds n ≡ callee_seen n (seen ps ds n)
  callee_of_is [] = refl
  callee_of_is (d ∷ ds) = by (same n d.name) refl (callee_of_is ds)
    where
      by : (b : Bool) (is : same n d.name ≡ b) → callee_of (bodies ps) ds n ≡ callee_seen n (seen ps ds n) →
          chosen b (callee_in (bodies ps) d.part d.ty) (callee_of (bodies ps) ds n) ≡ callee_seen n (seen_if n d b is (look_in ps d.part d.ty) (seen ps ds n))
      by true is rest =
          callee_is ps d.part d.ty
          ∙ callee_as d.name (sym ((bytes_eq-Decides (folded n.text) (folded d.name.text)).0 is)) (look_in ps d.part d.ty)
      by false is rest = rest
