-- The state that has the values of a map.
use Rattle.std.proofs.Common.{◌≡◌, ℕ, ◌+◌, ◌<◌, Bool, true, false, List, [], ◌++◌, Some, length, map, filter, take, get_or, slice_get, refl, sym, ap, subst, ◌∙◌, arith, length-append}
use Rattle.std.specs.Prelude.{count_by, sum_by}
use Rattle.std.specs.List.{flat_map}
use Rattle.std.specs.Str.{bytes_eq}
use Rattle.std.proofs.lemmas.List.{length-map, get_or_append_left, get_or-append-add}
use Rattle.std.proofs.lemmas.List.Concat.{get_or-flat_map, length-flat_map}
use Rattle.std.proofs.lemmas.List.Quantifiers.{position-Some}
use Rattle.std.proofs.lemmas.List.Sums.{length-filter}
use Rattle.std.proofs.lemmas.Option.{slice_get_within, slice_get-get_or, get_or_from_slice_get}
use Rattle.std.proofs.lemmas.Slice.Eq.{bytes_eq-Decides}
use Rattle.std.proofs.Math.Seq.{take-length}
use Rattle.ps_base.specs.LetterCase.{folded}
use Rattle.ps_model.specs.Blocks.{idle, output_count}
use Rattle.ps_model.specs.Network.{Network}
use Rattle.ps_model.specs.Scanning.{State, signal_in, block_in}
use Rattle.ps_parser.specs.declared.name.Name.{Name}
use Rattle.ps_parser.specs.Tree.{StatementTree}
use Rattle.ps_names.specs.declared.entry.Entry.{Entry}
use Rattle.ps_names.specs.declared.entry.Sort.{Sort}
use Rattle.ps_names.specs.declared.entry.Sort.TheVariants.{InputSignal, OutputSignal, LocalSignal, Instance, Nothing}
use Rattle.ps_names.specs.Names.{is_input, is_output, is_local, is_instance}
use Rattle.ps_names.specs.Limits.{inputs, outputs, locals, outputs_of}
use Rattle.ps_names.specs.Stands.{number, number_as, outputs_before, instance_named, network_of}
use Rattle.ps_names.proofs.Unbroken.{IsUnbroken}
use Rattle.ps_names.proofs.Targets.{IsInstance, instance_number, names_it}
use Rattle.ps_names.proofs.ReadNames.{IsSignal}
use Rattle.ps_names.proofs.OneDriver.{declared_is, instances_are}
use Rattle.ps_names.proofs.FirstPins.{pins_before}
use Rattle.ps_names.proofs.Lists.{map_at}
use Rattle.ps_names.proofs.Whole.{filter_at}
use Rattle.ps_language_laws.specs.Reading.{Values}
use Rattle.ps_language_laws.specs.Equations.{output_names}
use Rattle.ps_language_laws.specs.ByName.{output_numbered}
use Rattle.ps_language_laws.specs.Laws.{HasSizes}
use Rattle.ps_language_laws.proofs.Drives.{read_number}
use Rattle.ps_language_laws.proofs.Outputs.{outputs_are}
use Rattle.ps_language_laws.proofs.Seen.{IsMapOf}

-- ---- places in joined lists

within : (xs ys : List Bool) (n : ℕ) (b : Bool) → slice_get xs n ≡ Some b → get_or (xs ++ ys) n false ≡ b
within xs ys n b at = get_or_append_left xs ys false n (slice_get_within xs n b at) ∙ get_or_from_slice_get xs n b false at

behind : (xs ys : List Bool) (a n : ℕ) → length xs ≡ a → get_or (xs ++ ys) (a + n) false ≡ get_or ys n false
behind xs ys a n long = ap (λ z. get_or (xs ++ ys) (z + n) false) (sym long) ∙ get_or-append-add xs ys n false

module _ (m : Values) (es : List Entry) where
  -- the values of these signals
  abbrev signals_where : (Sort → Bool) → List Bool
  signals_where test = map (λ (e : Entry). m.signal (folded e.name.text)) (filter (λ e. test e.sort) es)

  -- the values of the outputs of what has this path
  abbrev outputs_as : List ℕ → Sort → List Bool
  outputs_as p (Instance kind) = map (λ pin. m.output p (folded pin)) (output_names kind)
  outputs_as p _ = []

  abbrev outputs_at : Entry → List Bool
  outputs_at e = outputs_as (folded e.name.text) e.sort

  -- the state with these values
  abbrev pub state_of : State
  state_of = record {
    signals = signals_where is_input ++ (signals_where is_output ++ (signals_where is_local ++ flat_map outputs_at es));
    blocks = map (λ (e : Entry). m.block (folded e.name.text)) (filter (λ e. is_instance e.sort) es);
  }

  -- ---- signals with a declaration of their own

  long_where : (test : Sort → Bool) → length (signals_where test) ≡ count_by (λ (e : Entry). test e.sort) es
  long_where test = length-map (filter (λ (e : Entry). test e.sort) es) (λ (e : Entry). m.signal (folded e.name.text)) ∙ length-filter (λ (e : Entry). test e.sort) es

  own_at : (test : Sort → Bool) (k : ℕ) (e : Entry) → slice_get es k ≡ Some e → test e.sort ≡ true →
      slice_get (signals_where test) (count_by (λ (x : Entry). test x.sort) (take k es)) ≡ Some (m.signal (folded e.name.text))
  own_at test k e at is =
      map_at (λ (x : Entry). m.signal (folded x.name.text)) (filter (λ (x : Entry). test x.sort) es) (count_by (λ (x : Entry). test x.sort) (take k es)) e
      (filter_at (λ (x : Entry). test x.sort) es k e at is)

  signal_at : (k : ℕ) (e : Entry) → slice_get es k ≡ Some e → (s : Sort) → e.sort ≡ s → IsSignal s → signal_in state_of (number_as es s k) ≡ m.signal (folded e.name.text)
  signal_at k e at (InputSignal t) is d =
      within (signals_where is_input) _ (inputs (take k es)) _ (own_at is_input k e at (ap is_input is))
  signal_at k e at (OutputSignal t) is d =
      behind (signals_where is_input) _ (inputs es) (outputs (take k es)) (long_where is_input)
      ∙ within (signals_where is_output) _ (outputs (take k es)) _ (own_at is_output k e at (ap is_output is))
  signal_at k e at (LocalSignal t) is d =
      ap (signal_in state_of) (let split : inputs es + outputs es + locals (take k es) ≡ inputs es + (outputs es + locals (take k es)) = omega arith in split)
      ∙ behind (signals_where is_input) _ (inputs es) (outputs es + locals (take k es)) (long_where is_input)
      ∙ behind (signals_where is_output) _ (outputs es) (locals (take k es)) (long_where is_output)
      ∙ within (signals_where is_local) _ (locals (take k es)) _ (own_at is_local k e at (ap is_local is))
  signal_at k e at (Instance kind) is d = absurd d
  signal_at k e at Nothing is d = absurd d

  -- ---- outputs of instances

  outputs_long : (p : List ℕ) (s : Sort) → length (outputs_as p s) ≡ outputs_of s
  outputs_long p (InputSignal t) = refl
  outputs_long p (OutputSignal t) = refl
  outputs_long p (LocalSignal t) = refl
  outputs_long p (Instance kind) = length-map (output_names kind) (λ pin. m.output p (folded pin)) ∙ outputs_are kind
  outputs_long p Nothing = refl

  all_outputs_long : (xs : List Entry) → length (flat_map outputs_at xs) ≡ sum_by (λ (e : Entry). outputs_of e.sort) xs
  all_outputs_long xs = length-flat_map outputs_at xs ∙ (λ i. sum_by (λ (e : Entry). outputs_long (folded e.name.text) e.sort i) xs)

  output_at_entry : (k j : ℕ) (e : Entry) → slice_get es k ≡ Some e → j < length (outputs_at e) → signal_in state_of (outputs_before es k + j) ≡ get_or (outputs_at e) j false
  output_at_entry k j e at less =
      let same = get_or_from_slice_get es k e e at in
      ap (signal_in state_of)
      (let split : inputs es + outputs es + locals es + sum_by (λ (x : Entry). outputs_of x.sort) (take k es) + j
      ≡ inputs es + (outputs es + (locals es + (sum_by (λ (x : Entry). outputs_of x.sort) (take k es) + j))) = omega arith in split)
      ∙ behind (signals_where is_input) _ (inputs es) _ (long_where is_input)
      ∙ behind (signals_where is_output) _ (outputs es) _ (long_where is_output)
      ∙ behind (signals_where is_local) _ (locals es) _ (long_where is_local)
      ∙ ap (λ n. get_or (flat_map outputs_at es) (n + j) false) (sym (all_outputs_long (take k es)))
      ∙ get_or-flat_map outputs_at es k j e false (slice_get_within es k e at) (subst (λ x. j < length (outputs_at x)) (sym same) less)
      ∙ ap (λ x. get_or (outputs_at x) j false) same

  output_is : (n : Name) (t : IsInstance es n) (pin : List ℕ) (j : ℕ) → output_numbered t.kind pin ≡ Some j →
      m.output (folded n.text) pin ≡ signal_in state_of (outputs_before es t.at + j)
  output_is n t pin j is =
      let found = position-Some (λ name. bytes_eq pin (folded name)) (output_names t.kind) j [] is in
      let name : List ℕ = get_or (output_names t.kind) j [] in
      let there = slice_get-get_or (output_names t.kind) j [] found.0 in
      let shown = λ (x : List ℕ). m.output (folded t.entry.name.text) (folded x) in
      let sort = ap (outputs_as (folded t.entry.name.text)) t.sort in
      let less = found.0 in
      let long = ap length sort ∙ length-map (output_names t.kind) shown in
      (λ i. m.output (names_it es n t.at t.entry t.declared t.is i) ((bytes_eq-Decides pin (folded name)).0 found.1 i))
      ∙ sym (get_or_from_slice_get (map shown (output_names t.kind)) j (shown name) false (map_at shown (output_names t.kind) j name there))
      ∙ ap (λ l. get_or l j false) (sym sort)
      ∙ sym (output_at_entry t.at j t.entry t.is (omega arith))

  -- ---- the state of a map

  block_is : (n : Name) (t : IsInstance es n) → m.block (folded n.text) ≡ block_in state_of (number es n)
  block_is n t =
      let state = λ (e : Entry). m.block (folded e.name.text) in
      ap (λ (p : List ℕ). m.block p) (names_it es n t.at t.entry t.declared t.is)
      ∙ sym (get_or_from_slice_get (map state (filter (λ (e : Entry). is_instance e.sort) es)) (count_by (λ (e : Entry). is_instance e.sort) (take t.at es)) (state t.entry) idle
      (map_at state (filter (λ (e : Entry). is_instance e.sort) es) (count_by (λ (e : Entry). is_instance e.sort) (take t.at es)) t.entry
      (filter_at (λ (e : Entry). is_instance e.sort) es t.at t.entry t.is (ap is_instance t.sort))))
      ∙ ap (block_in state_of) (sym (instance_number es n t))

  -- a map is one of its state
  pub state_is : IsMapOf es state_of m
  state_is = record {
    signals = λ n t. ap (λ (p : List ℕ). m.signal p) (names_it es n t.at t.entry t.declared t.is)
        ∙ sym (signal_at t.at t.entry t.is t.entry.sort refl t.signal) ∙ ap (signal_in state_of) (sym (read_number es n t));
    outputs = output_is;
    blocks = block_is;
  }

  -- which has the sizes of an application with these names
  module _ (name : List ℕ) (ss : List StatementTree) (clean : IsUnbroken es ss) where
    abbrev app : Network
    app = network_of name es ss

    outputs_together : sum_by (λ (e : Entry). outputs_of e.sort) es ≡ sum_by (λ x. output_count x.kind) (take (length app.instances) app.instances)
    outputs_together =
        ap (sum_by (λ (e : Entry). outputs_of e.sort)) (sym (take-length es)) ∙ pins_before es (length es)
        ∙ ap (λ (l : List Entry). sum_by (λ x. output_count x.kind) (take (count_by (λ (e : Entry). is_instance e.sort) l) app.instances)) (take-length es)
        ∙ ap (λ n. sum_by (λ x. output_count x.kind) (take n app.instances)) (sym (instances_are name es ss clean))

    pub state_sizes : HasSizes app state_of
    state_sizes = record {
      signal_each =
          let ins = long_where is_input in
          let outs = long_where is_output in
          let own = long_where is_local in
          let pins = all_outputs_long es in
          let same = outputs_together in
          let declared = declared_is name es ss clean in
          let a = length-append (signals_where is_input) (signals_where is_output ++ (signals_where is_local ++ flat_map outputs_at es)) in
          let b = length-append (signals_where is_output) (signals_where is_local ++ flat_map outputs_at es) in
          let c = length-append (signals_where is_local) (flat_map outputs_at es) in
          omega arith;
      block_each =
          length-map (filter (λ (e : Entry). is_instance e.sort) es) (λ (e : Entry). m.block (folded e.name.text))
          ∙ sym (length-map (filter (λ (e : Entry). is_instance e.sort) es) instance_named);
    }
