-- Declared names: each has its own place, its number, and stands among what is driven where its number is driven.
use Rattle.std.proofs.Common.{◌≡◌, ℕ, ◌+◌, ◌-◌, ◌<◌, ◌≤◌, Bool, true, false, ◌||◌, ◌&&◌, ◌⊎◌, inl, inr, ⊎_elim, List, [], Option, None, Some, length, take, slice_get, nat_lt, nat_le, refl, sym, ap, subst, ◌∙◌, arith}
use Rattle.std.specs.Option.{option_map}
use Rattle.std.specs.Str.{bytes_eq}
use Rattle.std.proofs.lemmas.Bool.{false≢true, cases_lt, or_cases, or_parts, ltb-false, le-ltb, and_from, le-leb, lt-ltb, eqb-true}
use Rattle.std.proofs.lemmas.List.{get_or_past}
use Rattle.std.proofs.lemmas.List.Folds.{list_any-append}
use Rattle.std.proofs.lemmas.List.Quantifiers.{position-Some}
use Rattle.std.proofs.lemmas.Option.{slice_get_within, get_or_from_slice_get}
use Rattle.std.proofs.lemmas.Slice.Eq.{bytes_eq-Decides}
use Rattle.std.proofs.Math.Seq.{take-length}
use Rattle.ps_base.specs.LetterCase.{folded}
use Rattle.ps_model.specs.Network as net
use Rattle.ps_model.specs.Network.{Network}
use Rattle.ps_model.specs.Action.{Action, assigns, calls}
use Rattle.ps_model.specs.Blocks.{output_count}
use Rattle.ps_model.specs.declared.named.Instance as model_instance
use Rattle.ps_model.specs.Scanning.{State, signal_in}
use Rattle.ps_model.proofs.Once as once
use Rattle.ps_model.proofs.Owners.{count_outputs, owner_of_place}
use Rattle.ps_parser.specs.declared.name.Name.{Name}
use Rattle.ps_parser.specs.declared.statement.Target.TheVariants.{Name as Whole, Pin as OfPin}
use Rattle.ps_parser.specs.Tree.{StatementTree, Assign, Call}
use Rattle.ps_names.specs.declared.entry.Entry.{Entry}
use Rattle.ps_names.specs.declared.entry.Sort.{Sort}
use Rattle.ps_names.specs.declared.entry.Sort.TheVariants.{InputSignal, OutputSignal, LocalSignal, Instance, Nothing}
use Rattle.ps_names.specs.Names.{same, is_input, is_output, is_local, declared_at, sort_at}
use Rattle.ps_names.specs.Limits.{inputs, outputs, locals}
use Rattle.ps_names.specs.Stands.{number, number_as, action, network_of}
use Rattle.ps_names.proofs.Unbroken.{IsUnbroken}
use Rattle.ps_names.proofs.ReadNames.{IsRead, IsSignal}
use Rattle.ps_names.proofs.OneCall.{one_place_of, nth, once_at_most, once_at_least}
use Rattle.ps_names.proofs.OneDriver.{target_at, declared_is, instances_are}
use Rattle.ps_names.proofs.Lists.{any_at, passes_at, in_map}
use Rattle.ps_names.proofs.Lookups.{position_first}
use Rattle.ps_names.proofs.Drivers.{inputs_are}
use Rattle.ps_names.proofs.Whole.{filter_at}
use Rattle.ps_language_laws.specs.Paths.{is_among}
use Rattle.ps_language_laws.specs.Reading.{Values, and_then}
use Rattle.ps_language_laws.specs.Equations.{statement_leaves, statements_leave}
use Rattle.ps_language_laws.specs.TextScans.{plain, inputs_among, begun}
use Rattle.ps_language_laws.specs.ByName.{by_name, place_of, signal_value}
use Rattle.ps_language_laws.proofs.Walk.{driven_any, driven_by}
use Rattle.ps_language_laws.proofs.Drives.{read_number, drives_signal, the_one}
use Rattle.ps_language_laws.proofs.Seen.{IsMapOf, filtered, signal_by_name, input_number, begun_signal}
use Rattle.ps_language_laws.proofs.EachStep.{target_read}

module _ (name : List ℕ) (es : List Entry) (ss : List StatementTree) (clean : IsUnbroken es ss) where
  abbrev app : Network
  app = network_of name es ss

  -- a declaration is the first of its name
  pub declared_here : (j : ℕ) (e : Entry) → slice_get es j ≡ Some e → declared_at es e.name ≡ Some j
  declared_here j e at =
      position_first (λ x. same e.name x.name) es j e at ((bytes_eq-Decides (folded e.name.text) (folded e.name.text)).1 refl)
      (λ i y less there. other i y less there (same e.name y.name) refl)
    where
      other : (i : ℕ) (y : Entry) → i < j → slice_get es i ≡ Some y → (b : Bool) → same e.name y.name ≡ b → b ≡ false
      other i y less there true h =
          let place : i ≡ j = one_place_of name es ss clean i j y e there at (sym ((bytes_eq-Decides (folded e.name.text) (folded y.name.text)).0 h)) in
          absurd (omega arith)
      other i y less there false h = refl

  -- the declaration of a signal
  pub own : (j : ℕ) (e : Entry) → slice_get es j ≡ Some e → IsSignal e.sort → IsRead es e.name
  own j e at signal = record { at = j; entry = e; declared = declared_here j e at; is = at; signal = signal }

  pub own_number : (j : ℕ) (e : Entry) → slice_get es j ≡ Some e → IsSignal e.sort → number es e.name ≡ number_as es e.sort j
  own_number j e at signal =
      let t : IsRead es e.name = record { at = j; entry = e; declared = declared_here j e at; is = at; signal = signal } in
      read_number es e.name t

  input_signal : (s : Sort) → is_input s ≡ true → IsSignal s
  input_signal (InputSignal v) h = tt
  input_signal (OutputSignal v) h = absurd (false≢true h)
  input_signal (LocalSignal v) h = absurd (false≢true h)
  input_signal (Instance v) h = absurd (false≢true h)
  input_signal Nothing h = absurd (false≢true h)

  -- ---- inputs

  -- the map has an input's value under its name
  pub input_by_name : (w : State) (m : Values) → IsMapOf es w m → (k : ℕ) (e : Entry) → slice_get (inputs_among es) k ≡ Some e → m.signal (folded e.name.text) ≡ signal_in w k
  input_by_name w m m_of k e at =
      let f = filtered (λ x. is_input x.sort) es k e at in
      let signal = input_signal e.sort f.2 in
      m_of.signals e.name (own f.0 e f.1 signal) ∙ ap (signal_in w) (own_number f.0 e f.1 signal ∙ input_number name es ss clean e.sort f.0 f.2 ∙ f.3)

  -- each number of an input has its name
  pub input_at : (s : ℕ) → s < net.input_count app → (e : Entry) × (slice_get (inputs_among es) s ≡ Some e)
  input_at s less =
      let count = inputs_are name es ss clean in
      let r = nth (λ x. is_input x.sort) es s (omega arith) in
      (r.1, ap (slice_get (inputs_among es)) (sym r.4) ∙ filter_at (λ x. is_input x.sort) es r.0 r.1 r.2 r.3)

  -- ---- what is driven in the end

  abbrev pub all_driven : List (List ℕ)
  all_driven = (and_then (begun es) (statements_leave plain [] ss)).driven

  pub driven_in_all : (n : Name) → IsRead es n → is_among (folded n.text) all_driven ≡ (nat_lt (number es n) (net.input_count app) || net.is_driven app (number es n))
  driven_in_all n t =
      list_any-append (bytes_eq (folded n.text)) (begun es).driven (statements_leave plain [] ss).driven
      ∙ (λ i. begun_signal name es ss clean n t i || driven_any plain [] (folded n.text) (action es) (net.drives app (number es n)) ss (drives_signal name es ss clean n t) i)

  -- what is driven is a signal with a declaration of its own
  pub driven_declared : (p : List ℕ) → is_among p all_driven ≡ true → (n : Name) × IsRead es n × (p ≡ folded n.text)
  driven_declared p h =
      ⊎_elim from_begun from_statements
      (or_cases (is_among p (begun es).driven) (is_among p (statements_leave plain [] ss).driven)
      (sym (list_any-append (bytes_eq p) (begun es).driven (statements_leave plain [] ss).driven) ∙ h))
    where
      from_begun : is_among p (begun es).driven ≡ true → (n : Name) × IsRead es n × (p ≡ folded n.text)
      from_begun among =
          let r = passes_at (bytes_eq p) (begun es).driven among in
          let e = in_map (λ (x : Entry). folded x.name.text) (inputs_among es) r.0 r.1 r.2 in
          let f = filtered (λ x. is_input x.sort) es r.0 e.0 e.1 in
          (e.0.name, own f.0 e.0 f.1 (input_signal e.0.sort f.2), (bytes_eq-Decides p r.1).0 r.3 ∙ sym e.2)

      by_statement : (k : ℕ) (s : StatementTree) → slice_get ss k ≡ Some s → is_among p (statement_leaves plain [] s).driven ≡ true → (n : Name) × IsRead es n × (p ≡ folded n.text)
      by_statement k (Assign (Whole n) v) at among =
          (n, target_read es n (target_at name es ss clean k n v at), (bytes_eq-Decides p (folded n.text)).0 (the_one (bytes_eq p (folded n.text)) among))
      by_statement k (Assign (OfPin n q) v) at among = absurd (false≢true among)
      by_statement k (Call n args) at among = absurd (false≢true among)

      from_statements : is_among p (statements_leave plain [] ss).driven ≡ true → (n : Name) × IsRead es n × (p ≡ folded n.text)
      from_statements among = let r = driven_by plain [] p ss among in by_statement r.0 r.1 r.2 r.3

  -- ---- signals that nothing drives, from numbers to names

  module _ (w : State) (undriven : (s : ℕ) → net.input_count app ≤ s → net.is_driven app s ≡ false → signal_in w s ≡ false) where
    named_undriven : (j : ℕ) (e : Entry) → slice_get es j ≡ Some e → IsSignal e.sort → is_among (folded e.name.text) all_driven ≡ false → (by_name es w).signal (folded e.name.text) ≡ false
    named_undriven j e at signal none =
        let t = own j e at signal in
        let parts = or_parts (nat_lt (number es e.name) (net.input_count app)) (net.is_driven app (number es e.name)) (sym (driven_in_all e.name t) ∙ none) in
        let low = ltb-false (number es e.name) (net.input_count app) parts.0 in
        signal_by_name es w e.name t ∙ undriven (number es e.name) (omega arith) parts.1

    pub undriven_by_name : (p : List ℕ) → is_among p all_driven ≡ false → (by_name es w).signal p ≡ false
    undriven_by_name p none = by (place_of es p) refl
      where
        at_entry : (j : ℕ) (e : Entry) (s : Sort) → e.sort ≡ s → place_of es p ≡ Some j → slice_get es j ≡ Some e → (by_name es w).signal p ≡ false
        at_entry j e s q o at = as_sort s q
          where
            named : folded e.name.text ≡ p
            named =
                sym ((bytes_eq-Decides p (folded e.name.text)).0
                (ap (λ x. bytes_eq p (folded x.name.text)) (sym (get_or_from_slice_get es j e e at)) ∙ (position-Some (λ x. bytes_eq p (folded x.name.text)) es j e o).1))

            is_signal : IsSignal e.sort → (by_name es w).signal p ≡ false
            is_signal signal =
                ap (λ x. (by_name es w).signal x) (sym named) ∙ named_undriven j e at signal (ap (λ x. is_among x all_driven) named ∙ none)

            no_signal : (by_name es w).signal p ≡ signal_value es w (Some s) (Some j)
            no_signal =
                ap (λ x. signal_value es w (sort_at es x) x) o ∙ ap (λ r. signal_value es w (option_map (λ x. x.sort) r) (Some j)) at
                ∙ ap (λ x. signal_value es w (Some x) (Some j)) q

            as_sort : (u : Sort) → e.sort ≡ u → (by_name es w).signal p ≡ false
            as_sort (InputSignal v) h = is_signal (subst IsSignal (sym h) tt)
            as_sort (OutputSignal v) h = is_signal (subst IsSignal (sym h) tt)
            as_sort (LocalSignal v) h = is_signal (subst IsSignal (sym h) tt)
            as_sort (Instance v) h = no_signal ∙ ap (λ x. signal_value es w (Some x) (Some j)) (sym q ∙ h)
            as_sort Nothing h = no_signal ∙ ap (λ x. signal_value es w (Some x) (Some j)) (sym q ∙ h)

        at_place : (j : ℕ) (r : Option Entry) → place_of es p ≡ Some j → slice_get es j ≡ r → (by_name es w).signal p ≡ false
        at_place j None o at =
            ap (λ x. signal_value es w (sort_at es x) x) o ∙ ap (λ r. signal_value es w (option_map (λ e. e.sort) r) (Some j)) at
        at_place j (Some e) o at = at_entry j e e.sort refl o at

        by : (o : Option ℕ) → place_of es p ≡ o → (by_name es w).signal p ≡ false
        by None o = ap (λ x. signal_value es w (sort_at es x) x) o
        by (Some j) o = at_place j (slice_get es j) o refl

  -- ---- and from names to numbers

  pub output_as : (s : Sort) (k : ℕ) → is_output s ≡ true → IsSignal s × (number_as es s k ≡ inputs es + outputs (take k es))
  output_as (OutputSignal v) k h = (tt, refl)
  output_as (InputSignal v) k h = absurd (false≢true h)
  output_as (LocalSignal v) k h = absurd (false≢true h)
  output_as (Instance v) k h = absurd (false≢true h)
  output_as Nothing k h = absurd (false≢true h)

  local_as : (s : Sort) (k : ℕ) → is_local s ≡ true → IsSignal s × (number_as es s k ≡ inputs es + outputs es + locals (take k es))
  local_as (LocalSignal v) k h = (tt, refl)
  local_as (InputSignal v) k h = absurd (false≢true h)
  local_as (OutputSignal v) k h = absurd (false≢true h)
  local_as (Instance v) k h = absurd (false≢true h)
  local_as Nothing k h = absurd (false≢true h)

  -- a step calls each instance
  pub called_at : (i : ℕ) → i < net.instance_count app → (k : ℕ) × (a : Action) × (slice_get app.steps k ≡ Some a) × (net.is_call_of app i a ≡ true)
  called_at i less =
      let count = instances_are name es ss clean in
      let least = once_at_least name es ss clean i (omega arith) in
      let most = once_at_most name es ss clean i in
      once.place_of (net.is_call_of app i) app.steps (once.any_of_one (net.is_call_of app i) app.steps (omega arith))

  drives_its : (s i : ℕ) (a : Action) → net.is_call_of app i a ≡ true → net.first_pin app i ≤ s → s < net.first_pin app i + output_count (net.kind_at app i) → net.drives app s a ≡ true
  drives_its s i (assigns t e) h low high = absurd (false≢true h)
  drives_its s i (calls j args) h low high =
      subst (λ x. (nat_le (net.first_pin app x) s && nat_lt s (net.first_pin app x + output_count (net.kind_at app x))) ≡ true) (sym (eqb-true j i h))
      (and_from (nat_le (net.first_pin app i) s) (nat_lt s (net.first_pin app i + output_count (net.kind_at app i)))
      (le-leb (net.first_pin app i) s low) (lt-ltb s (net.first_pin app i + output_count (net.kind_at app i)) high))

  -- each output of an instance is driven
  pin_driven : (s : ℕ) → net.declared_count app ≤ s → s < net.signal_count app → net.is_driven app s ≡ true
  pin_driven s low high =
      let whole = ap count_outputs (take-length app.instances) in
      let owner = owner_of_place 0 app.instances (s - net.declared_count app) (omega arith) in
      let owns = owner.2 in
      let begins = owns.begins in
      let ends = owns.ends in
      let kind = ap (λ (x : model_instance.Instance). output_count x.kind) (get_or_from_slice_get app.instances owner.0 owns.instance net.no_instance owns.stands) in
      let call = called_at owner.0 (slice_get_within app.instances owner.0 owns.instance owns.stands) in
      any_at (net.drives app s) app.steps call.0 call.1 call.2 (drives_its s owner.0 call.1 call.3 (omega arith) (omega arith))

  module _ (w : State) (m : Values) (m_of : IsMapOf es w m) (sizes : length w.signals ≡ net.signal_count app) (none_driven : (p : List ℕ) → is_among p all_driven ≡ false → m.signal p ≡ false) where
    numbered_undriven : (s j : ℕ) (e : Entry) → net.input_count app ≤ s → net.is_driven app s ≡ false → slice_get es j ≡ Some e → IsSignal e.sort → number_as es e.sort j ≡ s → signal_in w s ≡ false
    numbered_undriven s j e low none at signal is =
        let t = own j e at signal in
        let number_is = own_number j e at signal ∙ is in
        ap (signal_in w) (sym number_is) ∙ sym (m_of.signals e.name t)
        ∙ none_driven (folded e.name.text)
        (driven_in_all e.name t ∙ ap (λ n. nat_lt n (net.input_count app) || net.is_driven app n) number_is
        ∙ (λ i. le-ltb s (net.input_count app) low i || none i))

    pub undriven_by_number : (s : ℕ) → net.input_count app ≤ s → net.is_driven app s ≡ false → signal_in w s ≡ false
    undriven_by_number s low none = by (cases_lt s (inputs es + outputs es)) (cases_lt s (inputs es + outputs es + locals es)) (cases_lt s (net.signal_count app))
      where
        ins : net.input_count app ≡ inputs es
        ins = inputs_are name es ss clean

        all : net.declared_count app ≡ inputs es + outputs es + locals es
        all = declared_is name es ss clean

        by : (s < inputs es + outputs es) ⊎ (inputs es + outputs es ≤ s) → (s < inputs es + outputs es + locals es) ⊎ (inputs es + outputs es + locals es ≤ s) →
            (s < net.signal_count app) ⊎ (net.signal_count app ≤ s) → signal_in w s ≡ false
        by (inl high) b c =
            let first = ins in
            let r = nth (λ e. is_output e.sort) es (s - inputs es) (omega arith) in
            let sort = output_as r.1.sort r.0 r.3 in
            let count = r.4 in
            numbered_undriven s r.0 r.1 low none r.2 sort.0 (sort.1 ∙ omega arith)
        by (inr above) (inl high) c =
            let r = nth (λ e. is_local e.sort) es (s - inputs es - outputs es) (omega arith) in
            let sort = local_as r.1.sort r.0 r.3 in
            let count = r.4 in
            numbered_undriven s r.0 r.1 low none r.2 sort.0 (sort.1 ∙ omega arith)
        by (inr above) (inr past) (inl high) = let declared = all in absurd (false≢true (sym none ∙ pin_driven s (omega arith) high))
        by (inr above) (inr past) (inr beyond) = let long = sizes in get_or_past w.signals s false (omega arith)
