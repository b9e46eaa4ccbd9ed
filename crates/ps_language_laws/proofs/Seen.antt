-- What a name reads is what its number reads.
use Rattle.std.proofs.Common.{◌≡◌, ℕ, ◌+◌, ◌<◌, ◌≤◌, Bool, true, false, ◌||◌, List, [], Some, filter, take, slice_get, nat_lt, refl, sym, ap, ◌∙◌, arith, if◌then◌else◌}
use Rattle.std.specs.Prelude.{count_by, sum_by}
use Rattle.std.specs.Option.{option_map}
use Rattle.std.specs.List.{list_any}
use Rattle.std.specs.Str.{bytes_eq}
use Rattle.std.proofs.lemmas.Bool.{false≢true, ltb-true, lt-ltb, le-ltb}
use Rattle.std.proofs.lemmas.List.{take-map}
use Rattle.std.proofs.lemmas.List.Folds.{list_any-append}
use Rattle.std.proofs.lemmas.List.Sums.{length-filter}
use Rattle.std.proofs.lemmas.Option.{slice_get_within}
use Rattle.std.proofs.lemmas.Slice.Eq.{bytes_eq-Decides}
use Rattle.ps_base.specs.LetterCase.{folded}
use Rattle.ps_model.specs.Blocks.{output_count}
use Rattle.ps_model.specs.Network as net
use Rattle.ps_model.specs.Network.{Network}
use Rattle.ps_model.specs.Scanning.{State, signal_in, block_in, read_at}
use Rattle.ps_parser.specs.declared.name.Name.{Name}
use Rattle.ps_parser.specs.Tree.{StatementTree}
use Rattle.ps_names.specs.declared.entry.Entry.{Entry}
use Rattle.ps_names.specs.declared.entry.Sort.{Sort}
use Rattle.ps_names.specs.declared.entry.Sort.TheVariants.{InputSignal, OutputSignal, LocalSignal, Instance, Nothing}
use Rattle.ps_names.specs.Names.{is_input, sort_at, sort_of}
use Rattle.ps_names.specs.Offences.{unless}
use Rattle.ps_names.specs.Limits.{inputs}
use Rattle.ps_names.specs.Rules.{has_output, wrong, at_read_pin}
use Rattle.ps_names.specs.Stands.{number, number_at, number_as, output_at, outputs_before, pin_number, pin_number_at, pin_number_as, action, network_of}
use Rattle.ps_names.proofs.Unbroken.{IsUnbroken}
use Rattle.ps_names.proofs.Targets.{IsInstance, instance_number, below_all, names_it}
use Rattle.ps_names.proofs.ReadNames.{IsRead, IsSignal, read_instance}
use Rattle.ps_names.proofs.OneDriver.{declared_is}
use Rattle.ps_names.proofs.OneCall.{one_place_of, nth}
use Rattle.ps_names.proofs.FirstPins.{pins_before}
use Rattle.ps_names.proofs.Drivers.{inputs_are}
use Rattle.ps_names.proofs.Lists.{any_at, passes_at, in_map, map_at}
use Rattle.ps_names.proofs.Whole.{filter_at}
use Rattle.ps_language_laws.specs.Paths.{is_among}
use Rattle.ps_language_laws.specs.Reading.{Values, Scan, Before, and_then, signal_seen, output_seen}
use Rattle.ps_language_laws.specs.Equations.{statements_leave}
use Rattle.ps_language_laws.specs.TextScans.{plain, inputs_among, begun}
use Rattle.ps_language_laws.specs.ByName.{by_name, signal_value, output_value, block_value, value_from, output_numbered}
use Rattle.ps_language_laws.proofs.Walk.{driven_any, called_any, at_first}
use Rattle.ps_language_laws.proofs.Drives.{same_test, read_number, drives_signal, calls_instance}
use Rattle.ps_language_laws.proofs.Outputs.{output_found}

-- an element with its count, among those that pass
pub filtered : {X : Type 0} (p : X → Bool) (xs : List X) (i : ℕ) (x : X) → slice_get (filter p xs) i ≡ Some x →
    (k : ℕ) × (slice_get xs k ≡ Some x) × (p x ≡ true) × (count_by p (take k xs) ≡ i)
filtered p xs i x h =
    let inside = slice_get_within (filter p xs) i x h in
    let all = length-filter p xs in
    let r = nth p xs i (omega arith) in
    let there : slice_get (filter p xs) i ≡ Some r.1 = ap (slice_get (filter p xs)) (sym r.4) ∙ filter_at p xs r.0 r.1 r.2 r.3 in
    let one : r.1 ≡ x = (let q : Some r.1 ≡ Some x = sym there ∙ h in cc) in
    (r.0, r.2 ∙ ap Some one, ap p (sym one) ∙ r.3, r.4)

has_it : (b : Bool) (q : Name) → unless b (wrong q) ≡ [] → b ≡ true
has_it true q h = refl
has_it false q h = cc

module _ (es : List Entry) (w : State) where
  -- the map has the value of a signal under its name
  pub signal_by_name : (n : Name) → IsRead es n → (by_name es w).signal (folded n.text) ≡ signal_in w (number es n)
  signal_by_name n t =
      ap (λ o. signal_value es w (sort_at es o) o) t.declared
      ∙ ap (λ r. signal_value es w (option_map (λ e. e.sort) r) (Some t.at)) t.is
      ∙ by t.entry.sort t.signal ∙ ap (signal_in w) (sym (ap (number_at es) t.declared))
    where
      by : (s : Sort) → IsSignal s → signal_value es w (Some s) (Some t.at) ≡ signal_in w (number_at es (Some t.at))
      by (InputSignal v) d = refl
      by (OutputSignal v) d = refl
      by (LocalSignal v) d = refl
      by (Instance v) d = absurd d
      by Nothing d = absurd d

  -- and of an output under the names of its instance and its pin
  pub pin_by_name : (n : Name) (t : IsInstance es n) (pin : List ℕ) →
      (by_name es w).output (folded n.text) pin ≡ value_from w (outputs_before es t.at) (output_numbered t.kind pin)
  pin_by_name n t pin =
      ap (λ o. output_value es w (sort_at es o) o pin) t.declared
      ∙ ap (λ r. output_value es w (option_map (λ e. e.sort) r) (Some t.at) pin) t.is
      ∙ ap (λ s. output_value es w (Some s) (Some t.at) pin) t.sort

  -- and the state of an instance
  pub block_by_name : (n : Name) (t : IsInstance es n) → (by_name es w).block (folded n.text) ≡ block_in w (number es n)
  block_by_name n t =
      ap (λ o. block_value es w (sort_at es o) o) t.declared
      ∙ ap (λ r. block_value es w (option_map (λ e. e.sort) r) (Some t.at)) t.is
      ∙ ap (λ s. block_value es w (Some s) (Some t.at)) t.sort
      ∙ ap (block_in w) (sym (ap (number_at es) t.declared))

  -- A map has the values of a state at every declared name.
  pub record IsMapOf (m : Values) : Type 0 where
    pub signals : (n : Name) → IsRead es n → m.signal (folded n.text) ≡ signal_in w (number es n)
    pub outputs : (n : Name) (t : IsInstance es n) (pin : List ℕ) (j : ℕ) → output_numbered t.kind pin ≡ Some j →
        m.output (folded n.text) pin ≡ signal_in w (outputs_before es t.at + j)
    pub blocks : (n : Name) → IsInstance es n → m.block (folded n.text) ≡ block_in w (number es n)

  pub by_name_is : IsMapOf (by_name es w)
  by_name_is = record {
    signals = signal_by_name;
    outputs = λ n t pin j is. pin_by_name n t pin ∙ ap (value_from w (outputs_before es t.at)) is;
    blocks = block_by_name;
  }

module _ (name : List ℕ) (es : List Entry) (ss : List StatementTree) (clean : IsUnbroken es ss) where
  abbrev app : Network
  app = network_of name es ss

  -- the outputs of an instance begin where the model has them
  pub first_is : (n : Name) (t : IsInstance es n) → outputs_before es t.at ≡ net.first_pin app (number es n)
  first_is n t =
      let all = declared_is name es ss clean in
      let before = pins_before es t.at in
      let place = ap (λ k. sum_by (λ x. output_count x.kind) (take k app.instances)) (instance_number es n t) in
      omega arith

  -- ---- what stands before a statement

  not_input : (s : Sort) (k : ℕ) → IsSignal s → is_input s ≡ false → inputs es ≤ number_as es s k
  not_input (InputSignal v) k d h = absurd (false≢true (sym h))
  not_input (OutputSignal v) k d h = omega arith
  not_input (LocalSignal v) k d h = omega arith
  not_input (Instance v) k d h = absurd d
  not_input Nothing k d h = absurd d

  pub input_number : (s : Sort) (k : ℕ) → is_input s ≡ true → number_as es s k ≡ inputs (take k es)
  input_number (InputSignal v) k h = refl
  input_number (OutputSignal v) k h = absurd (false≢true h)
  input_number (LocalSignal v) k h = absurd (false≢true h)
  input_number (Instance v) k h = absurd (false≢true h)
  input_number Nothing k h = absurd (false≢true h)

  -- a signal is an input where its number is one of an input
  pub begun_signal : (n : Name) → IsRead es n → is_among (folded n.text) (begun es).driven ≡ nat_lt (number es n) (net.input_count app)
  begun_signal n t =
      same_test (is_among (folded n.text) (begun es).driven) (nat_lt (number es n) (net.input_count app)) there back
    where
      there : is_among (folded n.text) (begun es).driven ≡ true → nat_lt (number es n) (net.input_count app) ≡ true
      there h =
          let r = passes_at (bytes_eq (folded n.text)) (begun es).driven h in
          let e = in_map (λ (x : Entry). folded x.name.text) (inputs_among es) r.0 r.1 r.2 in
          let f = filtered (λ x. is_input x.sort) es r.0 e.0 e.1 in
          let one : folded n.text ≡ folded e.0.name.text = (bytes_eq-Decides (folded n.text) r.1).0 r.3 ∙ sym e.2 in
          let place = one_place_of name es ss clean f.0 t.at e.0 t.entry f.1 t.is (sym one ∙ names_it es n t.at t.entry t.declared t.is) in
          let entry : e.0 ≡ t.entry = (let q : Some e.0 ≡ Some t.entry = sym f.1 ∙ ap (slice_get es) place ∙ t.is in cc) in
          let input : is_input t.entry.sort ≡ true = ap (λ x. is_input x.sort) (sym entry) ∙ f.2 in
          let is = read_number es n t ∙ input_number t.entry.sort t.at input in
          let less = below_all es (λ x. is_input x.sort) t.at t.entry t.is input in
          let count = inputs_are name es ss clean in
          lt-ltb (number es n) (net.input_count app) (omega arith)

      back : nat_lt (number es n) (net.input_count app) ≡ true → is_among (folded n.text) (begun es).driven ≡ true
      back h = by (is_input t.entry.sort) refl
        where
          by : (b : Bool) → is_input t.entry.sort ≡ b → is_among (folded n.text) (begun es).driven ≡ true
          by true e =
              any_at (bytes_eq (folded n.text)) (begun es).driven (count_by (λ x. is_input x.sort) (take t.at es)) (folded t.entry.name.text)
              (map_at (λ (x : Entry). folded x.name.text) (inputs_among es) (count_by (λ x. is_input x.sort) (take t.at es)) t.entry (filter_at (λ x. is_input x.sort) es t.at t.entry t.is e))
              ((bytes_eq-Decides (folded n.text) (folded t.entry.name.text)).1 (names_it es n t.at t.entry t.declared t.is))
          by false e =
              let is = read_number es n t in
              let more = not_input t.entry.sort t.at t.signal e in
              let less = ltb-true (number es n) (net.input_count app) h in
              let count = inputs_are name es ss clean in
              absurd (omega arith)

  -- what stands before statement k
  abbrev pub before : ℕ → Before
  before k = and_then (begun es) (statements_leave plain [] (take k ss))

  driven_before : (n : Name) → IsRead es n → (k : ℕ) → is_among (folded n.text) (before k).driven ≡ net.is_new app k (number es n)
  driven_before n t k =
      list_any-append (bytes_eq (folded n.text)) (begun es).driven (statements_leave plain [] (take k ss)).driven
      ∙ (λ i. begun_signal n t i || driven_any plain [] (folded n.text) (action es) (net.drives app (number es n)) (take k ss)
      (λ j s at. drives_signal name es ss clean n t j s (at_first ss k j s at)) i)
      ∙ ap (λ xs. nat_lt (number es n) (net.input_count app) || list_any (net.drives app (number es n)) xs) (sym (take-map (action es) k ss))

  called_before : (n : Name) (t : IsInstance es n) (j : ℕ) → j < output_count t.kind → (k : ℕ) →
      is_among (folded n.text) (before k).called ≡ net.is_new app k (net.first_pin app (number es n) + j)
  called_before n t j small k =
      called_any plain [] (folded n.text) (action es) (net.drives app (net.first_pin app (number es n) + j)) (take k ss)
      (λ i s at. calls_instance name es ss clean n t j small i s (at_first ss k i s at))
      ∙ ap (list_any (net.drives app (net.first_pin app (number es n) + j))) (sym (take-map (action es) k ss))
      ∙ sym (ap (λ b. b || list_any (net.drives app (net.first_pin app (number es n) + j)) (take k app.steps))
      (le-ltb (net.first_pin app (number es n) + j) (net.input_count app) (omega arith)))

  -- ---- readings

  module _ (old new : State) (scan : Scan) (was : IsMapOf es old scan.old) (is : IsMapOf es new scan.new) (k : ℕ) where
    pub signal_read : (n : Name) → IsRead es n → signal_seen scan (before k) (folded n.text) ≡ read_at app old new k (number es n)
    signal_read n t =
        (λ i. if driven_before n t k i then scan.new.signal (folded n.text) else scan.old.signal (folded n.text))
        ∙ (λ i. if net.is_new app k (number es n) then is.signals n t i else was.signals n t i)

    pin_read_at : (n : Name) (t : IsInstance es n) (pin : List ℕ) (j : ℕ) → output_numbered t.kind pin ≡ Some j → j < output_count t.kind →
        output_seen scan (before k) (folded n.text) pin ≡ read_at app old new k (outputs_before es t.at + j)
    pin_read_at n t pin j named small =
        (λ i. if called_before n t j small k i then scan.new.output (folded n.text) pin else scan.old.output (folded n.text) pin)
        ∙ (λ i. if net.is_new app k (sym (first_is n t) i + j) then is.outputs n t pin j named i else was.outputs n t pin j named i)

    pub pin_read : (n q : Name) → at_read_pin n q (sort_of es n) ≡ [] → output_seen scan (before k) (folded n.text) (folded q.text) ≡ read_at app old new k (pin_number es n q)
    pin_read n q fine =
        let t = read_instance es n q fine in
        let sort = ap (sort_at es) t.declared ∙ ap (option_map (λ e. e.sort)) t.is ∙ ap Some t.sort in
        let found = output_found t.kind q (has_it (has_output t.kind q) q (ap (at_read_pin n q) (sym sort) ∙ fine)) in
        pin_read_at n t (folded q.text) (output_at t.kind q) found.0 found.1
        ∙ ap (read_at app old new k)
        (sym (ap (λ o. pin_number_at es o q) t.declared ∙ ap (λ s. pin_number_as es s t.at q) (ap (option_map (λ e. e.sort)) t.is ∙ ap Some t.sort)))
