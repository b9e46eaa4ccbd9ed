-- By names a source means what its application means.
use Rattle.std.proofs.Common.{◌≡◌, ◌↔◌, ℕ, ◌+◌, ◌<◌, ◌≤◌, Bool, true, false, List, [], Some, slice_get, slice_index_or, sym, ap, subst, ◌∙◌, arith}
use Rattle.std.proofs.lemmas.List.{length-map}
use Rattle.std.proofs.lemmas.Option.{slice_get_within}
use Rattle.std.proofs.lemmas.Bool.{false≢true, eqb-true}
use Rattle.ps_model.specs.Formula.{Formula, value}
use Rattle.ps_model.specs.Blocks.{moved, outs, output_count}
use Rattle.ps_model.specs.Network as net
use Rattle.ps_model.specs.Network.{Network}
use Rattle.ps_model.specs.Action.{Action, Actual, assigns, calls}
use Rattle.ps_model.specs.Scanning.{State, Solves, signal_in, block_in, read_at, pins_under, limit_of}
use Rattle.ps_parser.specs.declared.name.Name.{Name}
use Rattle.ps_parser.specs.declared.statement.Target.TheVariants.{Name as Whole, Pin as OfPin}
use Rattle.ps_parser.specs.Tree.{ArgumentTree, StatementTree, Assign, Call, SourceTree}
use Rattle.ps_names.specs.declared.entry.Entry.{Entry}
use Rattle.ps_names.specs.Names.{entries, sort_of}
use Rattle.ps_names.specs.Rules.{offences}
use Rattle.ps_names.specs.Stands.{number, kind_of, sort_or, sum_formula, actuals, signal_named, action, network}
use Rattle.ps_names.proofs.Unbroken.{IsUnbroken, unbroken}
use Rattle.ps_names.proofs.Lists.{in_map, map_at}
use Rattle.ps_names.proofs.OneDriver.{no_pin_at, callee_at, instances_are}
use Rattle.ps_names.proofs.Targets.{instance_range}
use Rattle.ps_language_laws.specs.Equations.{StatementHolds}
use Rattle.ps_language_laws.specs.Paths.{is_among}
use Rattle.ps_language_laws.specs.Reading.{Values, Scan, and_then}
use Rattle.ps_language_laws.specs.TextScans.{plain, plain_body, inputs_among, begun, scan_of, Scanned}
use Rattle.ps_language_laws.specs.ByName.{by_name}
use Rattle.ps_language_laws.specs.Laws.{HasSizes, NamesAreNumbers}
use Rattle.ps_language_laws.proofs.Walk.{each_holds, all_hold}
use Rattle.ps_language_laws.proofs.Seen.{IsMapOf, by_name_is, before}
use Rattle.ps_language_laws.proofs.EachStep.{scan, assignment_there, assignment_back, call_there, state_back, shows_back}
use Rattle.ps_language_laws.proofs.Declaring.{input_by_name, input_at, undriven_by_name, undriven_by_number, called_at}

module _ (p : SourceTree) (none : offences p ≡ []) where
  abbrev es : List Entry
  es = entries p

  abbrev ss : List StatementTree
  ss = p.statements

  abbrev app : Network
  app = network p

  clean : IsUnbroken es ss
  clean = unbroken p.name.place es ss none

  instance_inside : (k : ℕ) (n : Name) (args : List ArgumentTree) → slice_get ss k ≡ Some (Call n args) → number es n < net.instance_count app
  instance_inside k n args at =
      let range = instance_range es n (callee_at p.name.text es ss clean k n args at) in
      let all = instances_are p.name.text es ss clean in
      omega arith

  input_inside : (k : ℕ) (e : Entry) → slice_get (inputs_among es) k ≡ Some e → k < net.input_count app
  input_inside k e at =
      let inside = slice_get_within (inputs_among es) k e at in
      let all = length-map (inputs_among es) signal_named in
      omega arith

  -- ---- signals that are driven in the end

  abbrev pub ends_driven : List ℕ → Bool
  ends_driven q = is_among q (and_then (begun es) ((plain_body p).leaves [])).driven

  -- what nothing drives is FALSE in the map of a state, where it is FALSE in the state
  pub unnamed_by_name : (new : State) → ((s : ℕ) → net.input_count app ≤ s → net.is_driven app s ≡ false → signal_in new s ≡ false) →
      (q : List ℕ) → ends_driven q ≡ false → (by_name es new).signal q ≡ false
  unnamed_by_name new undriven = undriven_by_name p.name.text es ss clean new undriven

  module _ (old : State) (ins : List Bool) (dt : ℕ) (new : State) (old_map new_map : Values) (old_is : IsMapOf es old old_map) (new_is : IsMapOf es new new_map) where
    abbrev the_scan : Scan
    the_scan = scan_of (plain_body p) old_map dt new_map

    -- ---- from numbers to names

    module _ (solved : Solves app old ins dt new) (unnamed : (q : List ℕ) → ends_driven q ≡ false → new_map.signal q ≡ false) where
      statement_there : (k : ℕ) (s : StatementTree) → slice_get ss k ≡ Some s →
          StatementHolds plain [] (scan p.name.text es ss clean old new old_map new_map old_is new_is dt k) (before p.name.text es ss clean k) s
      statement_there k (Assign (OfPin n q) v) at = tt
      statement_there k (Assign (Whole n) v) at =
          assignment_there p.name.text es ss clean old new old_map new_map old_is new_is dt k n v at (solved.assigned k _ _ (map_at (action es) ss k _ at))
      statement_there k (Call n args) at =
          call_there p.name.text es ss clean old new old_map new_map old_is new_is dt k n args at (solved.called k _ _ (map_at (action es) ss k _ at))
          (λ j less. solved.pin_outputs (number es n) j (instance_inside k n args at) less)

      pub to_names : HasSizes app new × Scanned es (plain_body p) old_map ins dt new_map
      to_names = (
        record { signal_each = solved.signal_each; block_each = solved.block_each },
        record {
          inputs = λ k e at. input_by_name p.name.text es ss clean new new_map new_is k e at ∙ solved.inputs k (input_inside k e at);
          statements = all_hold plain [] the_scan (begun es) ss statement_there;
          undriven = unnamed;
        },
      )

    -- ---- from names to numbers

    module _ (sizes : HasSizes app new) (scanned : Scanned es (plain_body p) old_map ins dt new_map) where
      holds : (k : ℕ) (s : StatementTree) → slice_get ss k ≡ Some s →
          StatementHolds plain [] (scan p.name.text es ss clean old new old_map new_map old_is new_is dt k) (before p.name.text es ss clean k) s
      holds = each_holds plain [] the_scan (begun es) ss scanned.statements

      assigned : (k t : ℕ) (e : Formula) → slice_get app.steps k ≡ Some (assigns t e) → signal_in new t ≡ value (read_at app old new k) e
      assigned k t e at = let r = in_map (action es) ss k (assigns t e) at in by r.0 r.1 r.2
        where
          by : (s : StatementTree) → slice_get ss k ≡ Some s → action es s ≡ assigns t e → signal_in new t ≡ value (read_at app old new k) e
          by (Assign (OfPin n q) v) there is = absurd (no_pin_at p.name.text es ss clean k n q v there)
          by (Assign (Whole n) v) there is =
              let target : number es n ≡ t = cc in
              let formula : sum_formula es v ≡ e = cc in
              sym (ap (signal_in new) target) ∙ assignment_back p.name.text es ss clean old new old_map new_map old_is new_is dt k n v there (holds k _ there) ∙ ap (value (read_at app old new k)) formula
          by (Call n args) there is = cc

      called : (k i : ℕ) (args : List Actual) → slice_get app.steps k ≡ Some (calls i args) →
          block_in new i ≡ moved (net.kind_at app i) (limit_of (net.kind_at app i) args) (pins_under (read_at app old new k) (net.kind_at app i) args) dt (block_in old i)
      called k i args at = let r = in_map (action es) ss k (calls i args) at in by r.0 r.1 r.2
        where
          by : (s : StatementTree) → slice_get ss k ≡ Some s → action es s ≡ calls i args →
              block_in new i ≡ moved (net.kind_at app i) (limit_of (net.kind_at app i) args) (pins_under (read_at app old new k) (net.kind_at app i) args) dt (block_in old i)
          by (Assign t v) there is = cc
          by (Call n more) there is =
              let number_is : number es n ≡ i = cc in
              let args_are : actuals es (kind_of (sort_or (sort_of es n))) more ≡ args = cc in
              subst (λ j. block_in new j ≡ moved (net.kind_at app j) (limit_of (net.kind_at app j) args) (pins_under (read_at app old new k) (net.kind_at app j) args) dt (block_in old j)) number_is
              (subst (λ a. block_in new (number es n) ≡ moved (net.kind_at app (number es n)) (limit_of (net.kind_at app (number es n)) a) (pins_under (read_at app old new k) (net.kind_at app (number es n)) a) dt (block_in old (number es n))) args_are
              (state_back p.name.text es ss clean old new old_map new_map old_is new_is dt k n more there (holds k _ there)))

      -- what output j of instance i shows
      abbrev Shows : ℕ → ℕ → Type 0
      Shows i j = signal_in new (net.first_pin app i + j) ≡ slice_index_or (outs (net.kind_at app i) (block_in new i).code (block_in new i).mode) j false

      shown_by : (i j k : ℕ) (a : Action) (s : StatementTree) → slice_get ss k ≡ Some s → action es s ≡ a → net.is_call_of app i a ≡ true → j < output_count (net.kind_at app i) → Shows i j
      shown_by i j k a (Assign t v) there is call less = absurd (false≢true (ap (net.is_call_of app i) is ∙ call))
      shown_by i j k a (Call n args) there is call less =
          let number_is : number es n ≡ i = eqb-true (number es n) i (ap (net.is_call_of app i) is ∙ call) in
          subst (λ x. Shows x j) number_is
          (shows_back p.name.text es ss clean old new old_map new_map old_is new_is dt k n args there (holds k _ there) j (subst (λ x. j < output_count (net.kind_at app x)) (sym number_is) less))

      pin_outputs : (i j : ℕ) → i < net.instance_count app → j < output_count (net.kind_at app i) →
          signal_in new (net.first_pin app i + j) ≡ slice_index_or (outs (net.kind_at app i) (block_in new i).code (block_in new i).mode) j false
      pin_outputs i j inside less =
          let call = called_at p.name.text es ss clean i inside in
          let s = in_map (action es) ss call.0 call.1 call.2 in
          shown_by i j call.0 call.1 s.0 s.1 s.2 call.3 less

      pub to_numbers : Solves app old ins dt new
      to_numbers = record {
        signal_each = sizes.signal_each;
        block_each = sizes.block_each;
        inputs = λ s less. let e = input_at p.name.text es ss clean s less in sym (input_by_name p.name.text es ss clean new new_map new_is s e.0 e.1) ∙ scanned.inputs s e.0 e.1;
        assigned = assigned;
        undriven = undriven_by_number p.name.text es ss clean new new_map new_is sizes.signal_each scanned.undriven;
        called = called;
        pin_outputs = pin_outputs;
      }

pub names_are_numbers : NamesAreNumbers
names_are_numbers p net stands old ins dt new =
    subst (λ n. Solves n old ins dt new ↔ (HasSizes n new × Scanned (entries p) (plain_body p) (by_name (entries p) old) ins dt (by_name (entries p) new))) (sym stands.is) (
      λ h. to_names p stands.unbroken old ins dt new (by_name (entries p) old) (by_name (entries p) new) (by_name_is (entries p) old) (by_name_is (entries p) new) h (unnamed_by_name p stands.unbroken new h.undriven),
      λ h. to_numbers p stands.unbroken old ins dt new (by_name (entries p) old) (by_name (entries p) new) (by_name_is (entries p) old) (by_name_is (entries p) new) h.0 h.1,
    )
