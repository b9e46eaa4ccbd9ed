-- The equation of a statement by names is that of its step by numbers.
use Rattle.std.proofs.Common.{◌≡◌, ℕ, ◌+◌, ◌<◌, Bool, false, List, [], Some, slice_get, slice_index_or, sym, ap, subst, ◌∙◌, arith}
use Rattle.std.specs.Option.{option_map}
use Rattle.std.proofs.lemmas.Option.{slice_get_within}
use Rattle.ps_base.specs.LetterCase.{folded}
use Rattle.ps_model.specs.declared.kind.Kind.{Kind}
use Rattle.ps_model.specs.Blocks.{Block_state, moved, outs, output_count}
use Rattle.ps_model.specs.Formula.{value}
use Rattle.ps_model.specs.Network as net
use Rattle.ps_model.specs.Network.{Network}
use Rattle.ps_model.specs.Scanning.{State, signal_in, block_in, read_at, pins_under, limit_of}
use Rattle.ps_model.proofs.Once.{element_at}
use Rattle.ps_parser.specs.declared.name.Name.{Name}
use Rattle.ps_parser.specs.declared.statement.Target.TheVariants.{Name as Whole}
use Rattle.ps_parser.specs.Tree.{SumTree, ArgumentTree, StatementTree, Assign, Call}
use Rattle.ps_names.specs.declared.entry.Entry.{Entry}
use Rattle.ps_names.specs.declared.entry.Sort.{Sort}
use Rattle.ps_names.specs.declared.entry.Sort.TheVariants.{InputSignal, OutputSignal, LocalSignal, Instance, Nothing}
use Rattle.ps_names.specs.Names.{sort_at, sort_of}
use Rattle.ps_names.specs.Uses.{drives, runs, statement_uses}
use Rattle.ps_names.specs.Rules.{broken_by}
use Rattle.ps_names.specs.Stands.{number, kind_of, sort_or, sum_formula, actuals, network_of}
use Rattle.ps_names.proofs.Distinct.{none_right}
use Rattle.ps_names.proofs.Unbroken.{IsUnbroken, none_inside}
use Rattle.ps_names.proofs.Targets.{IsTarget, IsInstance, IsDriven}
use Rattle.ps_names.proofs.ReadNames.{IsRead, IsSignal, read_name}
use Rattle.ps_names.proofs.OneDriver.{target_at, callee_at}
use Rattle.ps_names.proofs.Whole.{kind_of_called}
use Rattle.ps_language_laws.specs.Reading.{Values, Scan, Reading, sum_value}
use Rattle.ps_language_laws.specs.Equations as equations
use Rattle.ps_language_laws.specs.Equations.{output_names, reading_at, HasMoved, Moves, StatementHolds, kind_at}
use Rattle.ps_language_laws.specs.TextScans.{plain, instances_in}
use Rattle.ps_language_laws.proofs.Outputs.{outputs_are, output_is}
use Rattle.ps_language_laws.proofs.Seen.{IsMapOf, before, signal_read, pin_read, first_is}
use Rattle.ps_language_laws.proofs.Valued.{sum_is, moved_alike}
use Rattle.ps_language_laws.proofs.KindsFound.{kind_is}

-- what is assigned is a signal
pub target_read : (es : List Entry) (n : Name) → IsTarget es n → IsRead es n
target_read es n t = record { at = t.at; entry = t.entry; declared = t.declared; is = t.is; signal = by t.entry.sort t.driven }
  where
    by : (s : Sort) → IsDriven s → IsSignal s
    by (InputSignal v) d = tt
    by (OutputSignal v) d = tt
    by (LocalSignal v) d = tt
    by (Instance v) d = d
    by Nothing d = d

module _ (name : List ℕ) (es : List Entry) (ss : List StatementTree) (clean : IsUnbroken es ss) (old new : State) (old_map new_map : Values) (old_is : IsMapOf es old old_map) (new_is : IsMapOf es new new_map) (dt : ℕ) (k : ℕ) where
  abbrev app : Network
  app = network_of name es ss

  -- the scan by names
  abbrev pub scan : Scan
  scan = record { old = old_map; new = new_map; dt = dt; instances = instances_in [] es }

  -- what statement k reads, by names and by numbers
  abbrev reading : Reading
  reading = reading_at plain [] scan (before name es ss clean k)

  abbrev numbered : ℕ → Bool
  numbered = read_at app old new k

  -- ---- an assignment

  module _ (n : Name) (v : SumTree) (at : slice_get ss k ≡ Some (Assign (Whole n) v)) where
    target_is : new_map.signal (folded n.text) ≡ signal_in new (number es n)
    target_is = new_is.signals n (target_read es n (target_at name es ss clean k n v at))

    value_is : sum_value reading v ≡ value numbered (sum_formula es v)
    value_is =
        sum_is es reading numbered
        (λ m fine. signal_read name es ss clean old new scan old_is new_is k m (read_name es clean.typed m fine))
        (λ m q fine. pin_read name es ss clean old new scan old_is new_is k m q fine)
        v (none_right (broken_by es (drives n)) _ (none_inside (broken_by es) statement_uses ss k _ clean.uses at))

    pub assignment_there : signal_in new (number es n) ≡ value numbered (sum_formula es v) → StatementHolds plain [] scan (before name es ss clean k) (Assign (Whole n) v)
    assignment_there h = target_is ∙ h ∙ sym value_is

    pub assignment_back : StatementHolds plain [] scan (before name es ss clean k) (Assign (Whole n) v) → signal_in new (number es n) ≡ value numbered (sum_formula es v)
    assignment_back h = sym target_is ∙ h ∙ value_is

  -- ---- a call

  module _ (n : Name) (args : List ArgumentTree) (at : slice_get ss k ≡ Some (Call n args)) where
    instance : IsInstance es n
    instance = callee_at name es ss clean k n args at

    abbrev i : ℕ
    i = number es n

    kind_there : net.kind_at app i ≡ instance.kind
    kind_there = kind_of_called name es ss clean n instance

    kind_here : kind_at (instances_in [] es) (folded n.text) ≡ Some instance.kind
    kind_here = kind_is name es ss clean n instance

    kind_named : kind_of (sort_or (sort_of es n)) ≡ instance.kind
    kind_named =
        ap (λ o. kind_of (sort_or o)) (ap (sort_at es) instance.declared ∙ ap (option_map (λ e. e.sort)) instance.is ∙ ap Some instance.sort)

    -- the state after the call by numbers, for the kind of the instance and the kind of its name
    abbrev moved_for : Kind → Kind → Block_state
    moved_for kind named = moved kind (limit_of kind (actuals es named args)) (pins_under numbered kind (actuals es named args)) dt (block_in old i)

    -- the state after the call by numbers
    abbrev pub moved_by_number : Block_state
    moved_by_number = moved_for (net.kind_at app i) (kind_of (sort_or (sort_of es n)))

    abbrev moved_by_name : Block_state
    moved_by_name =
        moved instance.kind (limit_of instance.kind (equations.actuals reading instance.kind args))
        (pins_under (λ _. false) instance.kind (equations.actuals reading instance.kind args)) dt (old_map.block (folded n.text))

    moved_is : moved_by_name ≡ moved_by_number
    moved_is =
        moved_alike es reading numbered
        (λ m fine. signal_read name es ss clean old new scan old_is new_is k m (read_name es clean.typed m fine))
        (λ m q fine. pin_read name es ss clean old new scan old_is new_is k m q fine)
        n args (none_right (broken_by es (runs n)) _ (none_inside (broken_by es) statement_uses ss k _ clean.uses at))
        instance.kind dt (old_map.block (folded n.text))
        ∙ ap (λ b. moved instance.kind (limit_of instance.kind (actuals es instance.kind args)) (pins_under numbered instance.kind (actuals es instance.kind args)) dt b) (old_is.blocks n instance)
        ∙ sym (λ j. moved_for (kind_there j) (kind_named j))

    state_is : new_map.block (folded n.text) ≡ block_in new i
    state_is = new_is.blocks n instance

    -- what an output shows, by names and by numbers
    abbrev pub Shows : ℕ → Type 0
    Shows j = signal_in new (net.first_pin app i + j) ≡ slice_index_or (outs (net.kind_at app i) (block_in new i).code (block_in new i).mode) j false

    pin_is : (j : ℕ) (pin : List ℕ) → slice_get (output_names instance.kind) j ≡ Some pin →
        new_map.output (folded n.text) (folded pin) ≡ signal_in new (net.first_pin app i + j)
    pin_is j pin there =
        new_is.outputs n instance (folded pin) j (output_is instance.kind j pin there)
        ∙ (λ x. signal_in new (first_is name es ss clean n instance x + j))

    shown_is : (j : ℕ) → slice_index_or (outs instance.kind (new_map.block (folded n.text)).code (new_map.block (folded n.text)).mode) j false
        ≡ slice_index_or (outs (net.kind_at app i) (block_in new i).code (block_in new i).mode) j false
    shown_is j = (λ x. slice_index_or (outs (sym kind_there x) (state_is x).code (state_is x).mode) j false)

    small : (j : ℕ) (pin : List ℕ) → slice_get (output_names instance.kind) j ≡ Some pin → j < output_count (net.kind_at app i)
    small j pin there =
        let inside = slice_get_within (output_names instance.kind) j pin there in
        let all = outputs_are instance.kind in
        let kind = ap output_count kind_there in
        omega arith

    pub call_there : block_in new i ≡ moved_by_number → ((j : ℕ) → j < output_count (net.kind_at app i) → Shows j) →
        StatementHolds plain [] scan (before name es ss clean k) (Call n args)
    call_there state shows =
        subst (Moves scan (folded n.text) reading args) (sym kind_here)
        (record {
          state = state_is ∙ state ∙ sym moved_is;
          shows = λ j pin there. pin_is j pin there ∙ shows j (small j pin there) ∙ sym (shown_is j);
        })

    has_moved : StatementHolds plain [] scan (before name es ss clean k) (Call n args) → HasMoved scan (folded n.text) instance.kind (equations.actuals reading instance.kind args)
    has_moved h = subst (Moves scan (folded n.text) reading args) kind_here h

    pub state_back : StatementHolds plain [] scan (before name es ss clean k) (Call n args) → block_in new i ≡ moved_by_number
    state_back h = sym state_is ∙ (has_moved h).state ∙ moved_is

    pub shows_back : StatementHolds plain [] scan (before name es ss clean k) (Call n args) → (j : ℕ) → j < output_count (net.kind_at app i) → Shows j
    shows_back h j less =
        let all = outputs_are instance.kind in
        let kind = ap output_count kind_there in
        let pin = element_at (output_names instance.kind) j (omega arith) in
        sym (pin_is j pin.0 pin.1) ∙ (has_moved h).shows j pin.0 pin.1 ∙ shown_is j
