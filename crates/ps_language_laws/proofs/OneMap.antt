-- One map is what a scan of a source leaves, up to what it does not declare.
use Rattle.std.proofs.Common.{◌≡◌, ℕ, zero, suc, ◌+◌, Bool, true, false, List, [], ◌∷◌, ◌++◌, Some, length, get_or, slice_get, refl, sym, ap, subst, ◌∙◌, arith}
use Rattle.std.specs.List.{flat_map}
use Rattle.std.specs.Str.{bytes_eq}
use Rattle.std.proofs.lemmas.List.Quantifiers.{position-Some}
use Rattle.std.proofs.lemmas.Option.{slice_get-get_or}
use Rattle.std.proofs.lemmas.Slice.Eq.{bytes_eq-Decides}
use Rattle.ps_base.specs.LetterCase.{folded}
use Rattle.ps_model.specs.declared.named.Instance as model_instance
use Rattle.ps_model.specs.Scanning.{State}
use Rattle.ps_model.specs.Sound.{IsSound}
use Rattle.ps_model.proofs.OneSolution.{has_one_solution}
use Rattle.ps_parser.specs.declared.name.Name.{Name}
use Rattle.ps_parser.specs.Tree.{SourceTree}
use Rattle.ps_names.specs.declared.entry.Entry.{Entry}
use Rattle.ps_names.specs.declared.entry.Sort.{Sort}
use Rattle.ps_names.specs.declared.entry.Sort.TheVariants.{InputSignal, OutputSignal, LocalSignal, Instance, Nothing}
use Rattle.ps_names.specs.Names.{entries}
use Rattle.ps_names.specs.Rules.{offences}
use Rattle.ps_names.specs.Stands.{network}
use Rattle.ps_names.proofs.Unbroken.{IsUnbroken, unbroken}
use Rattle.ps_names.proofs.Targets.{IsInstance, names_it}
use Rattle.ps_names.proofs.Lists.{in_flat}
use Rattle.ps_language_laws.specs.Reading.{Values}
use Rattle.ps_language_laws.specs.Equations.{output_names}
use Rattle.ps_language_laws.specs.TextScans.{instance_at, instances_in, plain_body, Scanned}
use Rattle.ps_language_laws.specs.ByName.{by_name}
use Rattle.ps_language_laws.proofs.Outputs.{output_is}
use Rattle.ps_language_laws.proofs.Seen.{IsMapOf, by_name_is}
use Rattle.ps_language_laws.proofs.Declaring.{declared_here, driven_declared}
use Rattle.ps_language_laws.proofs.States.{state_of, state_is, state_sizes}
use Rattle.ps_language_laws.proofs.Named.{ends_driven, unnamed_by_name, to_names, to_numbers}
use Rattle.ps_language_laws.specs.Maps.{AreAlike}

-- ---- elements of joined lists

at_left : {X : Type 0} (xs ys : List X) (k : ℕ) (x : X) → slice_get xs k ≡ Some x → slice_get (xs ++ ys) k ≡ Some x
at_left [] ys k x at = cc
at_left (y ∷ xs) ys zero x at = at
at_left (y ∷ xs) ys (suc k) x at = at_left xs ys k x at

at_right : {X : Type 0} (xs ys : List X) (k : ℕ) → slice_get (xs ++ ys) (length xs + k) ≡ slice_get ys k
at_right [] ys k = ap (slice_get ys) (let none : 0 + k ≡ k = omega arith in none)
at_right (x ∷ xs) ys k =
    ap (slice_get (x ∷ (xs ++ ys))) (let one : length (x ∷ xs) + k ≡ suc (length xs + k) = omega arith in one) ∙ at_right xs ys k

flat_at : {X Y : Type 0} (f : X → List Y) (xs : List X) (j i : ℕ) (x : X) (y : Y) → slice_get xs j ≡ Some x → slice_get (f x) i ≡ Some y →
    (k : ℕ) × (slice_get (flat_map f xs) k ≡ Some y)
flat_at f [] j i x y at there = cc
flat_at f (z ∷ xs) zero i x y at there = (i, at_left (f z) (flat_map f xs) i y (ap (λ w. slice_get (f w) i) (let same : z ≡ x = cc in same) ∙ there))
flat_at f (z ∷ xs) (suc j) i x y at there =
    let r = flat_at f xs j i x y at there in (length (f z) + r.0, at_right (f z) (flat_map f xs) r.0 ∙ r.1)

-- ---- instances

-- an instance with a path has a name that is declared so
record IsNamed (es : List Entry) (i : model_instance.Instance) : Type 0 where
  name : Name
  declared : IsInstance es name
  path : i.name ≡ folded name.text
  kind : i.kind ≡ declared.kind

module _ (p : SourceTree) (none : offences p ≡ []) where
  abbrev es : List Entry
  es = entries p

  abbrev instances : List model_instance.Instance
  instances = instances_in [] es

  clean : IsUnbroken es p.statements
  clean = unbroken p.name.place es p.statements none

  instance_named : (k : ℕ) (i : model_instance.Instance) → slice_get instances k ≡ Some i → IsNamed es i
  instance_named k i at =
      let r = in_flat (λ e. instance_at (folded e.name.text) e.sort) es k i at in by r.1 r.0 r.2 r.3 r.1.sort refl r.4
    where
      by : (e : Entry) (j : ℕ) → slice_get es j ≡ Some e → (l : ℕ) (s : Sort) → e.sort ≡ s → slice_get (instance_at (folded e.name.text) s) l ≡ Some i → IsNamed es i
      by e j there l (InputSignal t) q here = cc
      by e j there l (OutputSignal t) q here = cc
      by e j there l (LocalSignal t) q here = cc
      by e j there l Nothing q here = cc
      by e j there (suc l) (Instance kind) q here = cc
      by e j there zero (Instance kind) q here =
          let same : i ≡ record { name = folded e.name.text; kind = kind } = cc in
          record {
            name = e.name;
            declared = record { at = j; entry = e; kind = kind; declared = declared_here p.name.text es p.statements clean j e there; is = there; sort = q };
            path = ap (λ (x : model_instance.Instance). x.name) same;
            kind = ap (λ (x : model_instance.Instance). x.kind) same;
          }

  -- and a name that is declared so is that of an instance with a path
  instance_there : (n : Name) (t : IsInstance es n) → (k : ℕ) × (slice_get instances k ≡ Some (record { name = folded n.text; kind = t.kind }))
  instance_there n t =
      let r = flat_at (λ e. instance_at (folded e.name.text) e.sort) es t.at 0 t.entry (record { name = folded t.entry.name.text; kind = t.kind }) t.is
      (ap (λ s. slice_get (instance_at (folded t.entry.name.text) s) 0) t.sort) in
      (r.0, r.1 ∙ ap (λ q. Some (record { name = q; kind = t.kind })) (sym (names_it es n t.at t.entry t.declared t.is)))

  -- ---- maps of one state

  -- FALSE is what nothing drives
  abbrev IsFalseElsewhere : Values → Type 0
  IsFalseElsewhere m = (q : List ℕ) → ends_driven p none q ≡ false → m.signal q ≡ false

  module _ (w : State) (a b : Values) where
    -- they are alike
    pub alike_of : IsMapOf es w a → IsMapOf es w b → IsFalseElsewhere a → IsFalseElsewhere b → AreAlike instances a b
    alike_of a_of b_of a_else b_else = record {
      signals = λ q. signal_same q (ends_driven p none q) refl;
      blocks = λ k i at. let n = instance_named k i at in
          ap (λ x. a.block x) n.path ∙ a_of.blocks n.name n.declared ∙ sym (b_of.blocks n.name n.declared) ∙ sym (ap (λ x. b.block x) n.path);
      outputs = λ k j i pin at there. let n = instance_named k i at in
          let numbered = output_is n.declared.kind j pin (ap (λ kind. slice_get (output_names kind) j) (sym n.kind) ∙ there) in
          ap (λ x. a.output x (folded pin)) n.path ∙ a_of.outputs n.name n.declared (folded pin) j numbered
          ∙ sym (b_of.outputs n.name n.declared (folded pin) j numbered) ∙ sym (ap (λ x. b.output x (folded pin)) n.path);
    }
      where
        signal_same : (q : List ℕ) (driven : Bool) → ends_driven p none q ≡ driven → a.signal q ≡ b.signal q
        signal_same q true h =
            let r = driven_declared p.name.text es p.statements clean q h in
            ap (λ x. a.signal x) r.2 ∙ a_of.signals r.0 r.1 ∙ sym (b_of.signals r.0 r.1) ∙ sym (ap (λ x. b.signal x) r.2)
        signal_same q false h = a_else q h ∙ sym (b_else q h)

    -- and what is alike to one is another
    pub of_alike : AreAlike instances a b → IsMapOf es w a → IsMapOf es w b
    of_alike same a_of = record {
      signals = λ n t. sym (same.signals (folded n.text)) ∙ a_of.signals n t;
      outputs = λ n t pin j is.
          let found = position-Some (λ name. bytes_eq pin (folded name)) (output_names t.kind) j [] is in
          let name : List ℕ = get_or (output_names t.kind) j [] in
          let pin_is = (bytes_eq-Decides pin (folded name)).0 found.1 in
          let here = instance_there n t in
          ap (b.output (folded n.text)) pin_is
          ∙ sym (same.outputs here.0 j (record { name = folded n.text; kind = t.kind }) name here.1 (slice_get-get_or (output_names t.kind) j [] found.0))
          ∙ sym (ap (a.output (folded n.text)) pin_is)
          ∙ a_of.outputs n t pin j is;
      blocks = λ n t. let here = instance_there n t in
          sym (same.blocks here.0 (record { name = folded n.text; kind = t.kind }) here.1) ∙ a_of.blocks n t;
    }

  -- ---- one map

  module _ (sound : IsSound (network p)) (ins : List Bool) (dt : ℕ) where
    -- there is one, whatever the map before
    pub some_map : (was : Values) → (is : Values) × Scanned es (plain_body p) was ins dt is
    some_map was =
        let old = state_of was es in
        let one = has_one_solution (network p) sound old ins dt in
        let new = one.solution in (
          by_name es new,
          (to_names p none old ins dt new was (by_name es new) (state_is was es) (by_name_is es new) one.solves (unnamed_by_name p none new one.solves.undriven)).1,
        )

    -- and all are alike, where the maps before are
    pub alike_after : (was other is another : Values) → AreAlike instances was other →
        Scanned es (plain_body p) was ins dt is → Scanned es (plain_body p) other ins dt another → AreAlike instances is another
    alike_after was other is another same first second =
        let old = state_of was es in
        let one = has_one_solution (network p) sound old ins dt in
        let x = state_of is es in
        let y = state_of another es in
        let x_solves = to_numbers p none old ins dt x was is (state_is was es) (state_is is es) (state_sizes is es p.name.text p.statements clean) first in
        let y_solves = to_numbers p none old ins dt y other another (of_alike old was other same (state_is was es)) (state_is another es)
        (state_sizes another es p.name.text p.statements clean) second in
        let states : y ≡ x = one.only y y_solves ∙ sym (one.only x x_solves) in
        alike_of x is another (state_is is es) (subst (λ w. IsMapOf es w another) states (state_is another es)) first.undriven second.undriven
