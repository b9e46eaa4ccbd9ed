-- The place of a breach of the rules S stands in the source.
use Rattle.std.proofs.Common.{◌≡◌, ◌<◌, ◌∙◌, ℕ, zero, suc, Bool, true, false, cond, List, [], ◌∷◌, ◌++◌, Option, None, Some, IsSome, length, map, refl, sym, ap, subst, arith}
use Rattle.std.specs.Prelude.{slice_get, slice_index_or, unwrap_or}
use Rattle.std.specs.Option.{option_map}
use Rattle.std.specs.List.{find}
use Rattle.std.proofs.lemmas.List.{get_or-map, length-map}
use Rattle.std.proofs.lemmas.Option.{same_Some}
use Rattle.ps_base.specs.LetterCase.{is_same_name}
use Rattle.ps_base.specs.declared.failing.Rule.{Rule}
use Rattle.ps_model.specs.declared.kind.Kind.{Kind}
use Rattle.ps_model.specs.declared.kind.Ty.{Ty}
use Rattle.ps_model.specs.Action.{Action, Actual, free, calls}
use Rattle.ps_model.specs.Blocks.{Pin, block}
use Rattle.ps_model.specs.Network.{Network, kind_at}
use Rattle.ps_model.specs.Pins.{pin_names}
use Rattle.ps_model.specs.Scanning.{pin_at, no_pin}
use Rattle.ps_flow.specs.Refusals.{BreaksAt, BreaksStep, IsFirstBreach}
use Rattle.ps_names.specs.declared.entry.Entry.{Entry}
use Rattle.ps_names.specs.declared.entry.Sort.TheVariants.{Instance, Nothing}
use Rattle.ps_names.specs.Names.{entries, sort_at, sort_of}
use Rattle.ps_names.specs.Stands.{Stands, network_of, number, action, actual_at, given, kind_of}
use Rattle.ps_names.proofs.Lists.{in_map}
use Rattle.ps_names.proofs.OneDriver.{callee_at}
use Rattle.ps_names.proofs.Unbroken.{IsUnbroken, unbroken}
use Rattle.ps_names.proofs.Whole.{kind_of_called}
use Rattle.ps_parser.specs.declared.name.Name.{Name}
use Rattle.ps_parser.specs.Places.{step_place, place_if, pin_place}
use Rattle.ps_parser.specs.Tree.{ArgumentTree, StatementTree, Assign, Call, SourceTree}

-- a pin that a call is given has a first mention
mentioned : (pin : List ℕ) (args : List ArgumentTree) → IsSome (find (λ (a : ArgumentTree). is_same_name a.pin.text pin) args) → IsSome (pin_place pin args)
mentioned pin [] h = h
mentioned pin (a ∷ args) h = by (is_same_name a.pin.text pin) (mentioned pin args) h
  where
    by : (b : Bool) → (IsSome (find (λ (x : ArgumentTree). is_same_name x.pin.text pin) args) → IsSome (pin_place pin args)) →
        IsSome (cond b (Some a) (find (λ (x : ArgumentTree). is_same_name x.pin.text pin) args)) → IsSome (cond b (Some a.pin.place) (pin_place pin args))
    by true later h = refl
    by false later h = later h

-- what is left out breaks no rule
given_some : (n : Network) (ty : Ty) (rule : Rule) (o : Option ArgumentTree) (es : List Entry) → BreaksAt n ty (given es o) rule → IsSome o
given_some n ty rule None es h = absurd h
given_some n ty rule (Some a) es h = refl

names_first : (pins : List Pin) (more : List (List ℕ)) (j : ℕ) → j < length pins → slice_get (map (λ (p : Pin). p.name) pins ++ more) j ≡ Some (slice_index_or pins j no_pin).name
names_first [] more j h = absurd (omega arith)
names_first (p ∷ pins) more zero h = refl
names_first (p ∷ pins) more (suc j) h = names_first pins more j (omega arith)

-- the name of an input pin
pub input_name : (kind : Kind) (j : ℕ) → j < length (block kind).inputs → slice_get (pin_names kind) j ≡ Some (pin_at kind j).name
input_name kind j h = names_first (block kind).inputs _ j h

module _ (name : List ℕ) (es : List Entry) (ss : List StatementTree) (clean : IsUnbroken es ss) where
  abbrev app : Network
  app = network_of name es ss

  -- the kind of a called instance is that of its name
  kind_of_call : (k : ℕ) (n : Name) (more : List ArgumentTree) → slice_get ss k ≡ Some (Call n more) → kind_of (unwrap_or (sort_of es n) Nothing) ≡ kind_at app (number es n)
  kind_of_call k n more at =
      let t = callee_at name es ss clean k n more at in
      let sort : sort_of es n ≡ Some (Instance t.kind) = ap (sort_at es) t.declared ∙ ap (option_map (λ e. e.sort)) t.is ∙ ap Some t.sort in
      ap (λ s. kind_of (unwrap_or s Nothing)) sort ∙ sym (kind_of_called name es ss clean n t)

  -- a pin that breaks a rule is mentioned in its call
  pub pin_placed : (k i j : ℕ) (args : List Actual) (rule : Rule) → slice_get app.steps k ≡ Some (calls i args) → j < length args →
      BreaksAt app (pin_at (kind_at app i) j).ty (slice_index_or args j free) rule → IsSome (place_if (Some (pin_at (kind_at app i) j).name) (slice_get ss k))
  pin_placed k i j args rule h inside breaks = let r = in_map (action es) ss k (calls i args) h in by r.0 r.1 r.2
    where
      by : (st : StatementTree) → slice_get ss k ≡ Some st → action es st ≡ calls i args → IsSome (place_if (Some (pin_at (kind_at app i) j).name) (slice_get ss k))
      by (Assign t v) at is = cc
      by (Call n more) at is =
          let q : number es n ≡ i = cc in
          let kind = kind_of (unwrap_or (sort_of es n) Nothing) in
          let a : map (λ (p : Pin). actual_at es more p.name) (block kind).inputs ≡ args = cc in
          let same : kind ≡ kind_at app i = kind_of_call k n more at ∙ ap (kind_at app) q in
          let pin : Pin = pin_at kind j in
          let within : j < length (block kind).inputs = omega (arith, inside, ap length a, length-map (block kind).inputs (λ (p : Pin). actual_at es more p.name)) in
          let found : slice_index_or args j free ≡ actual_at es more pin.name =
          ap (λ (xs : List Actual). slice_index_or xs j free) (sym a) ∙ get_or-map (λ (p : Pin). actual_at es more p.name) (block kind).inputs j no_pin free within in
          let broken : BreaksAt app (pin_at (kind_at app i) j).ty (actual_at es more pin.name) rule = subst (λ (x : Actual). BreaksAt app (pin_at (kind_at app i) j).ty x rule) found breaks in
          let some = mentioned pin.name more (given_some app (pin_at (kind_at app i) j).ty rule (find (λ (x : ArgumentTree). is_same_name x.pin.text pin.name) more) es broken) in
          subst (λ (o : Option StatementTree). IsSome (place_if (Some (pin_at (kind_at app i) j).name) o)) (sym at)
          (subst (λ (kd : Kind). IsSome (pin_place (pin_at kd j).name more)) same some)

  -- each step has a place
  pub step_placed : (k : ℕ) (a : Action) → slice_get app.steps k ≡ Some a → IsSome (place_if None (slice_get ss k))
  step_placed k a h = let r = in_map (action es) ss k a h in subst (λ (o : Option StatementTree). IsSome (place_if None o)) (sym r.1) refl

-- the same of a program and its application
module _ (p : SourceTree) (n : Network) (stands : Stands p n) where
  clean : IsUnbroken (entries p) p.statements
  clean = unbroken p.name.place (entries p) p.statements stands.unbroken

  pub breach_placed : (k i j : ℕ) (args : List Actual) (rule : Rule) → slice_get n.steps k ≡ Some (calls i args) → BreaksStep n (calls i args) rule (Some j) →
      IsSome (step_place p k (Some (pin_at (kind_at n i) j).name))
  breach_placed k i j args rule h breaks =
      subst (λ (m : Network). slice_get m.steps k ≡ Some (calls i args) → BreaksStep m (calls i args) rule (Some j) → IsSome (step_place p k (Some (pin_at (kind_at m i) j).name))) (sym stands.is)
      (λ at broken. pin_placed p.name.text (entries p) p.statements clean k i j args rule at broken.0 broken.1) h breaks

  pub target_placed : (k : ℕ) (a : Action) → slice_get n.steps k ≡ Some a → IsSome (step_place p k None)
  target_placed k a h =
      subst (λ (m : Network). slice_get m.steps k ≡ Some a → IsSome (step_place p k None)) (sym stands.is) (λ at. step_placed p.name.text (entries p) p.statements clean k a at) h

-- what the step of a breach does
pub breaks_here : (n : Network) (k : ℕ) (rule : Rule) (pin : Option ℕ) (x : Action) → IsFirstBreach n rule k pin → slice_get n.steps k ≡ Some x → BreaksStep n x rule pin
breaks_here n k rule pin x breach at =
    subst (λ (a : Action). BreaksStep n a rule pin) (same_Some breach.action x (sym breach.here ∙ at)) breach.breaks

-- the name that stands at a pin is the pin's
pub pin_is : (kind kind' : Kind) (j : ℕ) (name : List ℕ) → kind ≡ kind' → slice_get (pin_names kind) j ≡ Some name → j < length (block kind').inputs → (pin_at kind' j).name ≡ name
pin_is kind kind' j name same at within = same_Some (pin_at kind' j).name name (sym (input_name kind' j within) ∙ ap (λ (kd : Kind). slice_get (pin_names kd) j) (sym same) ∙ at)
