-- Where each call of a derived instance has an argument for each input, it has one in a body that is laid flat.
use Rattle.std.proofs.Common.{◌≡◌, Bool, true, false, List, [], ◌∷◌, Option, None, Some, map, is_some, refl, sym, ap, subst, ◌∙◌, cond}
use Rattle.std.specs.List.{find, AllByRecursion}
use Rattle.std.specs.Option.{option_map}
use Rattle.ps_parser.specs.declared.name.Name.{Name}
use Rattle.ps_parser.specs.Tree.{ArgumentTree, StatementTree, Assign, Call}
use Rattle.ps_derived.specs.declared.declared.Declared.{Declared}
use Rattle.ps_derived.specs.declared.interface.Interface.{Interface}
use Rattle.ps_derived.specs.Bodies.{same, first_declared, inputs}
use Rattle.ps_derived.specs.Interfaces.{derived_if, derived_of}
use Rattle.ps_derived.specs.Giving.{HasArgument, HasArguments, GivesInputs}
use Rattle.ps_derived.specs.Renaming.{argument_renamed, statement_renamed}
use Rattle.ps_derived.specs.Spelling.{as_declared}
use Rattle.ps_derived.specs.Flat.{FlatBlock, DerivedInstance, block_in, instance_by, instance_if, instance_of}
use Rattle.ps_derived.proofs.Lookups.{type_map}
use Rattle.ps_derived.proofs.Spelt.{instance_same}

-- what bodies see of a function block that is laid flat
abbrev pub face : FlatBlock → Interface
face b = record { name = b.name; scope = b.declared; inputs = inputs b.declared }

-- for each input of an instance, if it is one
abbrev pub GivesAll : List ArgumentTree → Option DerivedInstance → Type 0
GivesAll args o = HasArguments args (option_map (λ i. face i.block) o)

-- for each call of a body
abbrev pub Gives : List FlatBlock → List Declared → StatementTree → Type 0
Gives blocks ds (Assign t s) = Unit {0}
Gives blocks ds (Call n args) = GivesAll args (instance_of blocks ds n)

derived_seen : (bs : List FlatBlock) (ds : List Declared) (n : Name) → derived_of (map face bs) ds n ≡ option_map (λ i. face i.block) (instance_of bs ds n)
derived_seen bs ds n = by_first (first_declared ds n)
  where
    by_block : (d : Declared) (o : Option FlatBlock) → option_map face o ≡ option_map (λ i. face i.block) (instance_by d o)
    by_block d None = refl
    by_block d (Some b) = refl

    by_first : (o : Option Declared) → derived_if (map face bs) o ≡ option_map (λ i. face i.block) (instance_if bs o)
    by_first None = refl
    by_first (Some d) = type_map face (λ (b : Interface). b.name) bs d.part d.ty ∙ by_block d (block_in bs d.part d.ty)

laid_gives : (bs : List FlatBlock) (ds : List Declared) (s : StatementTree) → GivesInputs (map face bs) ds s → Gives bs ds s
laid_gives bs ds (Assign t s) h = tt
laid_gives bs ds (Call n args) h = subst (HasArguments args) (derived_seen bs ds n) h

pub laid_each : (bs : List FlatBlock) (ds : List Declared) (ss : List StatementTree) → AllByRecursion (GivesInputs (map face bs) ds) ss → AllByRecursion (Gives bs ds) ss
laid_each bs ds [] h = tt
laid_each bs ds (s ∷ ss) h = (laid_gives bs ds s h.0, laid_each bs ds ss h.1)

-- the same where names are spelt as they are declared
spelt_argument : (rename : Name → Name) (args : List ArgumentTree) (x : Name) → HasArgument args x → HasArgument (map (argument_renamed rename) args) x
spelt_argument rename [] x h = h
spelt_argument rename (a ∷ args) x h = by (same x a.pin) h (spelt_argument rename args x)
  where
    by : (b : Bool) → is_some (cond b (Some a) (find (λ c. same x c.pin) args)) ≡ true → (HasArgument args x → HasArgument (map (argument_renamed rename) args) x) →
        is_some (cond b (Some (argument_renamed rename a)) (find (λ c. same x c.pin) (map (argument_renamed rename) args))) ≡ true
    by true h rest = refl
    by false h rest = rest h

spelt_all : (rename : Name → Name) (args : List ArgumentTree) (xs : List Name) → AllByRecursion (HasArgument args) xs → AllByRecursion (HasArgument (map (argument_renamed rename) args)) xs
spelt_all rename args [] h = tt
spelt_all rename args (x ∷ xs) h = (spelt_argument rename args x h.0, spelt_all rename args xs h.1)

spelt_gives : (rename : Name → Name) (args : List ArgumentTree) (o : Option DerivedInstance) → GivesAll args o → GivesAll (map (argument_renamed rename) args) o
spelt_gives rename args None h = tt
spelt_gives rename args (Some i) h = spelt_all rename args (inputs i.block.declared) h

spelt_by : (bs : List FlatBlock) (ds : List Declared) (s : StatementTree) → Gives bs ds s → Gives bs ds (statement_renamed (as_declared ds) s)
spelt_by bs ds (Assign t s) h = tt
spelt_by bs ds (Call n args) h = subst (GivesAll (map (argument_renamed (as_declared ds)) args)) (sym (instance_same bs ds ds n)) (spelt_gives (as_declared ds) args (instance_of bs ds n) h)

pub spelt_each : (bs : List FlatBlock) (ds : List Declared) (ss : List StatementTree) → AllByRecursion (Gives bs ds) ss → AllByRecursion (Gives bs ds) (map (statement_renamed (as_declared ds)) ss)
spelt_each bs ds [] h = tt
spelt_each bs ds (s ∷ ss) h = (spelt_by bs ds s h.0, spelt_each bs ds ss h.1)
