-- The application of a program that breaks no rule is sound.
use Rattle.std.proofs.Common.{◌≡◌, ℕ, zero, suc, ◌+◌, ◌<◌, ◌≤◌, Bool, true, false, cond, List, [], ◌∷◌, Some, length, map, filter, take, slice_get, slice_index_or, unwrap_or, refl, sym, ap, subst, ◌∙◌, arith, nat_le}
use Rattle.std.specs.Prelude.{count_by, sum_by}
use Rattle.std.specs.Option.{option_map}
use Rattle.std.specs.List.{All, AllByRecursion}
use Rattle.std.proofs.lemmas.Bool.{and_parts}
use Rattle.std.proofs.lemmas.Bool.Decides.{nat_tests}
use Rattle.std.proofs.lemmas.List.{length-map}
use Rattle.std.proofs.lemmas.List.Sums.{sum_by-cons, length-filter}
use Rattle.std.proofs.Math.Seq.{take-length}
use Rattle.ps_base.specs.declared.limits.TheConstants.{MOST_INPUTS, MOST_OUTPUTS, MOST_SIGNALS, MOST_INSTANCES, MOST_NODES, MOST_GROUPS, MOST_NESTED}
use Rattle.ps_model.specs.Network as net
use Rattle.ps_model.specs.Sound.{IsSound}
use Rattle.ps_model.specs.Formula.{Formula}
use Rattle.ps_model.specs.Action.{Action, Actual, assigns, calls}
use Rattle.ps_model.specs.Blocks.{block, output_count}
use Rattle.ps_model.specs.Values.{values, values_of_step, IsBelow, HasOperands, depth}
use Rattle.ps_parser.specs.declared.name.Name.{Name}
use Rattle.ps_parser.specs.declared.statement.Target.TheVariants.{Name as Whole, Pin as OfPin}
use Rattle.ps_parser.specs.Tree.{StatementTree, Assign, Call, SourceTree}
use Rattle.ps_parser.specs.Whole.{StatementWhole, IsWhole, statement_nesting, statements_nesting, nesting}
use Rattle.ps_names.specs.declared.entry.Entry.{Entry}
use Rattle.ps_names.specs.declared.entry.Sort.TheVariants.{Instance, Nothing}
use Rattle.ps_names.specs.Names.{entries, is_input, is_instance, sort_at, sort_of}
use Rattle.ps_names.specs.Limits.{outputs_of, inputs, outputs, instances, signals, sum_nodes, statement_nodes}
use Rattle.ps_names.specs.Uses.{statement_uses}
use Rattle.ps_names.specs.Rules.{at_read, broken_by, offences}
use Rattle.ps_names.specs.Stands.{number, sum_formula, action, network, network_of, instance_named, signal_named, kind_of, actual_at}
use Rattle.ps_names.proofs.Unbroken.{IsUnbroken, none_inside, unbroken}
use Rattle.ps_names.proofs.Lists.{map_at, in_map, all_at, all_brought, one_of_all}
use Rattle.ps_names.proofs.Targets.{IsInstance, target_range, instance_range, instance_number}
use Rattle.ps_names.proofs.OneDriver.{one_driver, target_at, callee_at, no_pin_at, declared_is, instances_are}
use Rattle.ps_names.proofs.OneCall.{once_at_most, once_at_least}
use Rattle.ps_names.proofs.FirstPins.{pins_before}
use Rattle.ps_names.proofs.Differ.{names_differ}
use Rattle.ps_names.proofs.ReadNames.{name_below, pin_below}
use Rattle.ps_names.proofs.Fine.{IsFine, sum_fine, sum_depth}
use Rattle.ps_names.proofs.Values.{IsValueOf, value_of}
use Rattle.ps_names.proofs.Drivers.{inputs_are, outputs_are, outputs_driven, locals_driven}
use Rattle.ps_names.proofs.FewNodes.{few_in_steps}
use Rattle.ps_names.proofs.Booleans.{IsBoolean, entries_are_boolean, signals_boolean}
use Rattle.ps_names.proofs.Times.{times_fit}

-- a statement's groups are among those of all
nesting_in : (ss : List StatementTree) (k : ℕ) (st : StatementTree) → slice_get ss k ≡ Some st → statement_nesting st ≤ statements_nesting ss
nesting_in [] k st at = cc
nesting_in (s ∷ ss) zero st at = let e : s ≡ st = cc in let f = ap statement_nesting e in omega arith
nesting_in (s ∷ ss) (suc k) st at = let h = nesting_in ss k st at in omega arith

-- numbering: among those that pass, an element stands at the count of those before it
pub filter_at : {X : Type 0} (p : X → Bool) (xs : List X) (k : ℕ) (x : X) → slice_get xs k ≡ Some x → p x ≡ true →
    slice_get (filter p xs) (count_by p (take k xs)) ≡ Some x
filter_at p [] k x at h = cc
filter_at p (y ∷ xs) zero x at h =
    let e : y ≡ x = cc in
    ap (λ b. slice_get (cond b (y ∷ filter p xs) (filter p xs)) 0) (ap p e ∙ h) ∙ at
filter_at {X = X} p (y ∷ xs) (suc k) x at h = by (p y) refl (filter_at p xs k x at h)
  where
    by : (b : Bool) → p y ≡ b → slice_get (filter p xs) (count_by p (take k xs)) ≡ Some x → slice_get (filter p (y ∷ xs)) (count_by p (y ∷ take k xs)) ≡ Some x
    by true e later =
        let a : count_by p (y ∷ take k xs) ≡ cond (p y) 1 0 + count_by p (take k xs) = sum_by-cons (λ z. cond (p z) 1 0) y (take k xs) in
        let f = ap (λ b. cond b 1 0 + count_by p (take k xs)) e in
        let count : count_by p (y ∷ take k xs) ≡ suc (count_by p (take k xs)) = omega arith in
        ap (λ b. slice_get (cond b (y ∷ filter p xs) (filter p xs)) (count_by p (y ∷ take k xs))) e ∙ ap (slice_get (y ∷ filter p xs)) count ∙ later
    by false e later =
        let a : count_by p (y ∷ take k xs) ≡ cond (p y) 1 0 + count_by p (take k xs) = sum_by-cons (λ z. cond (p z) 1 0) y (take k xs) in
        let f = ap (λ b. cond b 1 0 + count_by p (take k xs)) e in
        let count : count_by p (y ∷ take k xs) ≡ count_by p (take k xs) = omega arith in
        ap (λ b. slice_get (cond b (y ∷ filter p xs) (filter p xs)) (count_by p (y ∷ take k xs))) e ∙ ap (slice_get (filter p xs)) count ∙ later

or_at : {X : Type 0} (xs : List X) (k : ℕ) (x d : X) → slice_get xs k ≡ Some x → slice_index_or xs k d ≡ x
or_at [] k x d h = cc
or_at (y ∷ xs) zero x d h = cc
or_at (y ∷ xs) (suc k) x d h = or_at xs k x d h

module _ (name : List ℕ) (es : List Entry) (ss : List StatementTree) (clean : IsUnbroken es ss) where
  -- the kind of the instance that a name stands for
  pub kind_of_called : (n : Name) (t : IsInstance es n) → net.kind_at (network_of name es ss) (number es n) ≡ t.kind
  kind_of_called n t =
      ap (λ x. x.kind)
      (or_at (network_of name es ss).instances (number es n) (instance_named t.entry) _
      (ap (slice_get (network_of name es ss).instances) (instance_number es n t)
      ∙ map_at instance_named (filter (λ e. is_instance e.sort) es) _ t.entry (filter_at (λ e. is_instance e.sort) es t.at t.entry t.is (ap is_instance t.sort))))
      ∙ ap kind_of t.sort

  sound_targets : (k t : ℕ) (e : Formula) → slice_get (network_of name es ss).steps k ≡ Some (assigns t e) →
      (net.input_count (network_of name es ss) ≤ t) × (t < net.declared_count (network_of name es ss))
  sound_targets k t e h = let r = in_map (action es) ss k (assigns t e) h in by r.0 r.1 r.2
    where
      by : (st : StatementTree) → slice_get ss k ≡ Some st → action es st ≡ assigns t e →
          (net.input_count (network_of name es ss) ≤ t) × (t < net.declared_count (network_of name es ss))
      by (Assign (OfPin n q) v) at is = absurd (no_pin_at name es ss clean k n q v at)
      by (Assign (Whole n) v) at is =
          let q : number es n ≡ t = cc in
          let r = target_range es n (target_at name es ss clean k n v at) in
          let d = declared_is name es ss clean in
          let i = length-map (filter (λ e. is_input e.sort) es) signal_named ∙ length-filter (λ e. is_input e.sort) es in
          let low = r.0 in let high = r.1 in
          (omega arith, omega arith)
      by (Call n args) at is = cc

  sound_instances : (k i : ℕ) (args : List Actual) → slice_get (network_of name es ss).steps k ≡ Some (calls i args) → i < net.instance_count (network_of name es ss)
  sound_instances k i args h = let r = in_map (action es) ss k (calls i args) h in by r.0 r.1 r.2
    where
      by : (st : StatementTree) → slice_get ss k ≡ Some st → action es st ≡ calls i args → i < net.instance_count (network_of name es ss)
      by (Assign t v) at is = cc
      by (Call n more) at is =
          let q : number es n ≡ i = cc in
          let r = instance_range es n (callee_at name es ss clean k n more at) in
          let c = instances_are name es ss clean in
          omega arith

  sound_arguments : (k i : ℕ) (args : List Actual) → slice_get (network_of name es ss).steps k ≡ Some (calls i args) →
      length args ≡ length (block (net.kind_at (network_of name es ss) i)).inputs
  sound_arguments k i args h = let r = in_map (action es) ss k (calls i args) h in by r.0 r.1 r.2
    where
      by : (st : StatementTree) → slice_get ss k ≡ Some st → action es st ≡ calls i args → length args ≡ length (block (net.kind_at (network_of name es ss) i)).inputs
      by (Assign t v) at is = cc
      by (Call n more) at is =
          let t = callee_at name es ss clean k n more at in
          let sort : sort_of es n ≡ Some (Instance t.kind) = ap (sort_at es) t.declared ∙ ap (option_map (λ e. e.sort)) t.is ∙ ap Some t.sort in
          let q : number es n ≡ i = cc in
          let a : map (λ p. actual_at es more p.name) (block (kind_of (unwrap_or (sort_of es n) Nothing))).inputs ≡ args = cc in
          ap length (sym a) ∙ length-map (block (kind_of (unwrap_or (sort_of es n) Nothing))).inputs (λ p. actual_at es more p.name)
          ∙ ap (λ s. length (block (kind_of (unwrap_or s Nothing))).inputs) sort
          ∙ ap (λ x. length (block x).inputs) (sym (kind_of_called n t) ∙ ap (net.kind_at (network_of name es ss)) q)

  sound_calls : (i : ℕ) → i < net.instance_count (network_of name es ss) → count_by (net.is_call_of (network_of name es ss) i) (network_of name es ss).steps ≡ 1
  sound_calls i h =
      let most = once_at_most name es ss clean i in
      let c = instances_are name es ss clean in
      let least = once_at_least name es ss clean i (omega arith) in
      omega arith

  -- ---- limits

  le_of : (a b : ℕ) → nat_le a b ≡ true → a ≤ b
  le_of a b h = grind (arith, nat_tests)

  signals_are : net.signal_count (network_of name es ss) ≡ signals es
  signals_are =
      let all = pins_before es (length es) in
      let whole = take-length es in
      let pins : sum_by (λ e. outputs_of e.sort) es ≡ sum_by (λ x. output_count x.kind) (take (length (network_of name es ss).instances) (network_of name es ss).instances) =
      ap (sum_by (λ e. outputs_of e.sort)) (sym whole) ∙ all
      ∙ ap (λ k. sum_by (λ x. output_count x.kind) (take k (network_of name es ss).instances)) (ap (count_by (λ e. is_instance e.sort)) whole ∙ sym (instances_are name es ss clean)) in
      let declared = declared_is name es ss clean in
      omega arith

  -- ---- values

  name_fine : (n : Name) → at_read n (sort_of es n) ≡ [] → number es n < signals es
  name_fine n h = let less = name_below es clean.typed n h in omega arith

  module _ (IsNamed : List ℕ → Type 0) (whole : AllByRecursion (StatementWhole IsNamed) ss) where
    value_fine : (k : ℕ) (st : StatementTree) (e : Formula) → slice_get ss k ≡ Some st → (v : IsValueOf IsNamed es st e) → IsFine (signals es) (sum_formula es v.value) (sum_nodes v.value)
    value_fine k st e at v =
        sum_fine IsNamed es (signals es) name_fine (pin_below es) v.value (v.whole (one_of_all (StatementWhole IsNamed) ss k st whole at))
        (v.uses (broken_by es) (none_inside (broken_by es) statement_uses ss k st clean.uses at))

    -- what holds of the formula of each value of the source holds of each value of the application
    each_value : (P : Formula → Type 0) → ((k : ℕ) (st : StatementTree) (e : Formula) → slice_get ss k ≡ Some st → (v : IsValueOf IsNamed es st e) → P (sum_formula es v.value)) →
        All P (values (network_of name es ss))
    each_value P h = all_brought P values_of_step (map (action es) ss) (λ j x at. all_at P (values_of_step x) (λ i e at_. one j x at i e at_))
      where
        one : (j : ℕ) (x : Action) → slice_get (map (action es) ss) j ≡ Some x → (i : ℕ) (e : Formula) → slice_get (values_of_step x) i ≡ Some e → P e
        one j x at i e at_ =
            let st = in_map (action es) ss j x at in
            let v = value_of IsNamed es st.0 i e (ap (λ y. slice_get (values_of_step y) i) st.2 ∙ at_) in
            subst P (sym v.is) (h j st.0 e st.1 v)

    sound_below : All (IsBelow (net.signal_count (network_of name es ss))) (values (network_of name es ss))
    sound_below = each_value (IsBelow (net.signal_count (network_of name es ss)))
        (λ k st e at v. subst (λ n. IsBelow n (sum_formula es v.value)) (sym signals_are) (value_fine k st e at v).below)

    sound_full : All HasOperands (values (network_of name es ss))
    sound_full = each_value HasOperands (λ k st e at v. (value_fine k st e at v).full)

    sound_shallow : statements_nesting ss ≤ MOST_GROUPS → All (λ e. depth e ≤ MOST_NESTED) (values (network_of name es ss))
    sound_shallow few = each_value (λ e. depth e ≤ MOST_NESTED) (λ k st e at v.
        let fine = v.uses (broken_by es) (none_inside (broken_by es) statement_uses ss k st clean.uses at) in
        let deep = sum_depth es v.value fine in let in_step = v.shallow in let in_all = nesting_in ss k st at in omega arith)

    -- ---- all of it

    sound : All IsBoolean es → statements_nesting ss ≤ MOST_GROUPS → IsSound (network_of name es ss)
    sound boolean few =
        let a = and_parts _ (nat_le (sum_by statement_nodes ss) MOST_NODES) clean.within in
        let b = and_parts _ (nat_le (signals es) MOST_SIGNALS) a.0 in
        let c = and_parts _ (nat_le (instances es) MOST_INSTANCES) b.0 in
        let d = and_parts (nat_le (inputs es) MOST_INPUTS) (nat_le (outputs es) MOST_OUTPUTS) c.0 in
        let few_in = le_of (inputs es) MOST_INPUTS d.0 in
        let few_out = le_of (outputs es) MOST_OUTPUTS d.1 in
        let few_blocks = le_of (instances es) MOST_INSTANCES c.1 in
        let few_all = le_of (signals es) MOST_SIGNALS b.1 in
        let few_seen = le_of (sum_by statement_nodes ss) MOST_NODES a.1 in
        let ins = inputs_are name es ss clean in
        let outs = outputs_are name es ss clean in
        let blocks = instances_are name es ss clean in
        let all = signals_are in
        let seen = few_in_steps IsNamed es (signals es) name_fine (pin_below es) ss whole clean.uses in
        record {
          names_differ = names_differ es clean.names name ss;
          few_inputs = omega arith;
          few_outputs = omega arith;
          few_signals = omega arith;
          few_instances = omega arith;
          few_nodes = omega arith;
          targets = sound_targets;
          instances = sound_instances;
          arguments = sound_arguments;
          values_below = sound_below;
          values_full = sound_full;
          values_shallow = sound_shallow few;
          one_driver = one_driver name es ss clean;
          outputs_driven = outputs_driven name es ss clean;
          locals_driven = locals_driven name es ss clean;
          called_once = sound_calls;
          signals_boolean = signals_boolean name es ss boolean;
          times_fit = times_fit IsNamed es name ss whole;
        }

-- the application of a source that breaks no rule, whatever a name is in it
pub network_is_sound : (IsNamed : List ℕ → Type 0) (p : SourceTree) → offences p ≡ [] → IsWhole IsNamed p → nesting p ≤ MOST_GROUPS → IsSound (network p)
network_is_sound IsNamed p clean whole few =
    sound p.name.text (entries p) p.statements (unbroken p.name.place (entries p) p.statements clean) IsNamed whole.2 (entries_are_boolean p) few
