-- Each sound network has exactly one solution of its equations: the memory that its steps leave, one after another.
use Rattle.std.proofs.Common.{◌≡◌, ℕ, suc, zero, ◌+◌, ◌-◌, ◌≤◌, ◌<◌, Bool, true, false, cond, List, [], ◌∷◌, ◌++◌, take, drop, length, map, Some, sym, ap, ◌∙◌, refl, subst, ⊎_elim, arith, ◌||◌}
use Rattle.std.specs.Prelude.{count_by, sum_by, slice_get, slice_index_or, nat_lt, nat_le}
use Rattle.std.specs.List.{list_any, range_with_len}
use Rattle.std.proofs.lemmas.List.Folds.{list_any-append}
use Rattle.std.proofs.lemmas.List.{take-append-drop, take_all, ext_get_or, get_or_past}
use Rattle.std.proofs.lemmas.Option.{slice_get_within}
use Rattle.std.proofs.lemmas.List.FromFn.{length-map-range_with_len, get_or-map-range_with_len}
use Rattle.std.proofs.lemmas.Bool.{false≢true, cases_Bool, or_parts, or_cases, or_left, or_right, or_from, cond-true, cond-false, lt-ltb, le-ltb, ltb-true, ltb-false, leb-true, le-leb, eqb-true, eq-eqb, and_parts, and_from, cases_lt}
use Rattle.ps_model.specs.declared.kind.Kind.TheVariants.{Equivalent}
use Rattle.ps_model.specs.Formula.{Formula, value}
use Rattle.ps_model.specs.Blocks.{idle, moved, outs, output_count}
use Rattle.ps_model.specs.Network.{Network, input_count, declared_count, instance_count, signal_count, kind_at, first_pin, drives, is_call_of, is_new, is_driven}
use Rattle.ps_model.specs.Sound.{IsSound}
use Rattle.ps_model.specs.Action.{Action, Actual, assigns, calls}
use Rattle.ps_model.specs.Scanning.{State, Solves, signal_in, block_in, read_at, pins_under, limit_of, HasOneSolution}
use Rattle.ps_model.specs.Running.{Interim, begun, is_kept, called_state, written, left_at, done, exec}
use Rattle.ps_model.proofs.Once.{any_of_one, place_of, split_at, take_next, element_at, alone_before, alone_after, none_of_first, any_of_first, none_of_rest, any_at, sum_up_to}

module _ (net : Network) (dt : ℕ) where
  pub exec-append : (xs ys : List Action) (m : Interim) → exec net dt (xs ++ ys) m ≡ exec net dt ys (exec net dt xs m)
  unfolding exec
  exec-append [] ys m = refl
  exec-append (x ∷ xs) ys m = exec-append xs ys (done net dt x m)

  pub exec-one : (x : Action) (m : Interim) → exec net dt (x ∷ []) m ≡ done net dt x m
  unfolding exec
  exec-one x m = refl

  pub exec_next : (xs : List Action) (k : ℕ) (x : Action) (m : Interim) → slice_get xs k ≡ Some x →
      exec net dt (take (k + 1) xs) m ≡ done net dt x (exec net dt (take k xs) m)
  exec_next xs k x m at =
      let next : k + 1 ≡ suc k = omega arith in
      ap (λ z. exec net dt (take z xs) m) next ∙ ap (λ z. exec net dt z m) (take_next xs k x at)
      ∙ exec-append (take k xs) (x ∷ []) m ∙ exec-one x (exec net dt (take k xs) m)

  -- a signal that no step drives stays
  pub signal_stays : (xs : List Action) (m : Interim) (s : ℕ) → list_any (drives net s) xs ≡ false → (exec net dt xs m).signals s ≡ m.signals s
  unfolding exec
  signal_stays [] m s h = refl
  signal_stays (x ∷ xs) m s h =
      let parts = or_parts (drives net s x) (list_any (drives net s) xs) h in
      signal_stays xs (done net dt x m) s parts.1 ∙ cond-false (drives net s x) (written net dt x m s) (m.signals s) parts.0

  -- an instance that no step calls stays
  pub block_stays : (xs : List Action) (m : Interim) (i : ℕ) → list_any (is_call_of net i) xs ≡ false → (exec net dt xs m).blocks i ≡ m.blocks i
  unfolding exec
  block_stays [] m i h = refl
  block_stays (x ∷ xs) m i h =
      let parts = or_parts (is_call_of net i x) (list_any (is_call_of net i) xs) h in
      block_stays xs (done net dt x m) i parts.1 ∙ cond-false (is_call_of net i x) (left_at net dt x m i) (m.blocks i) parts.0

regroup : (a b c : Bool) → (a || (b || (c || false))) ≡ ((a || b) || c)
regroup true b c = refl
regroup false true c = refl
regroup false false true = refl
regroup false false false = refl

pub not_more : (a b : Bool) → b ≡ false → (a || b) ≡ a
not_more true b h = refl
not_more false b h = h

-- one more step makes new what it drives
pub new_after_step : (net : Network) (k s : ℕ) (a : Action) → slice_get net.steps k ≡ Some a → is_new net (suc k) s ≡ (is_new net k s || drives net s a)
new_after_step net k s a at =
    ap (λ z. nat_lt s (input_count net) || list_any (drives net s) z) (take_next net.steps k a at)
    ∙ ap (λ b. nat_lt s (input_count net) || b) (list_any-append (drives net s) (take k net.steps) (a ∷ []))
    ∙ regroup (nat_lt s (input_count net)) (list_any (drives net s) (take k net.steps)) (drives net s a)

-- ---- a sound network
module _ (net : Network) (sound : IsSound net) where
  pub first_pin_range : (i : ℕ) → i < instance_count net →
      (declared_count net ≤ first_pin net i) × (first_pin net i + output_count (kind_at net i) ≤ signal_count net)
  first_pin_range i h = (
    omega arith,
    omega (
      arith,
      sum_up_to (λ x. output_count x.kind) net.instances i (record { name = []; kind = Equivalent }) h,
      ap (λ z. sum_by (λ x. output_count x.kind) z) (take_all (length net.instances) net.instances (omega arith)),
    ),
  )

  -- a step drives no input and nothing past the signals
  pub driven_range : (k : ℕ) (a : Action) (s : ℕ) → slice_get net.steps k ≡ Some a → drives net s a ≡ true →
      (input_count net ≤ s) × (s < signal_count net)
  driven_range k (assigns t e) s at h =
      let same : t ≡ s = eqb-true t s h in let range = sound.targets k t e at in (omega arith, omega arith)
  driven_range k (calls i args) s at h =
      let inside = sound.instances k i args at in let range = first_pin_range i inside in
      let both = and_parts (nat_le (first_pin net i) s) (nat_lt s (first_pin net i + output_count (kind_at net i))) h in
      let low = leb-true (first_pin net i) s both.0 in let high = ltb-true s (first_pin net i + output_count (kind_at net i)) both.1 in
      (omega arith, omega arith)

  pub inputs_undriven : (s : ℕ) → s < input_count net → list_any (drives net s) net.steps ≡ false
  inputs_undriven s h =
      ⊎_elim (λ y. let r = place_of (drives net s) net.steps y in let range = driven_range r.0 r.1 s r.2 r.3 in absurd (omega arith))
      (λ n. n) (cases_Bool (list_any (drives net s) net.steps))

  pub driven_below : (s : ℕ) → is_driven net s ≡ true → s < signal_count net
  driven_below s y = let r = place_of (drives net s) net.steps y in (driven_range r.0 r.1 s r.2 r.3).1

  -- two calls of one instance drive its first output
  pub one_call : (i : ℕ) → i < instance_count net → count_by (is_call_of net i) net.steps ≤ 1
  one_call i h = omega (arith, sound.called_once i h)

  pub call_is : (i : ℕ) (a : Action) → is_call_of net i a ≡ true → (args : List Actual) × (a ≡ calls i args)
  call_is i (assigns t e) h = absurd (false≢true h)
  call_is i (calls j args) h = (args, ap (λ x. calls x args) (eqb-true j i h))

  pub is_call_itself : (i : ℕ) (args : List Actual) → is_call_of net i (calls i args) ≡ true
  is_call_itself i args = eq-eqb i i refl

  -- an instance has its state of the beginning up to its call
  pub uncalled_block : (dt : ℕ) (m : Interim) (k i : ℕ) (args : List Actual) → slice_get net.steps k ≡ Some (calls i args) →
      (exec net dt (take k net.steps) m).blocks i ≡ m.blocks i
  uncalled_block dt m k i args at =
      block_stays net dt (take k net.steps) m i
      (alone_before (is_call_of net i) net.steps (one_call i (sound.instances k i args at)) k (calls i args) at (is_call_itself i args))

  -- ---- one scan
  module _ (old : State) (ins : List Bool) (dt : ℕ) where
    abbrev pub start : Interim
    start = begun net old ins

    -- the memory before step k
    abbrev pub before : ℕ → Interim
    before k = exec net dt (take k net.steps) start

    -- the memory after all steps
    abbrev pub all : Interim
    all = exec net dt net.steps start

    all-before : (k : ℕ) → all ≡ exec net dt (drop k net.steps) (before k)
    all-before k =
        ap (λ z. exec net dt z start) (sym (take-append-drop k net.steps)) ∙ exec-append net dt (take k net.steps) (drop k net.steps) start

    all-after : (k : ℕ) (a : Action) → slice_get net.steps k ≡ Some a → all ≡ exec net dt (drop (suc k) net.steps) (done net dt a (before k))
    all-after k a at =
        ap (λ z. exec net dt z start) (split_at net.steps k a at) ∙ exec-append net dt (take k net.steps) (a ∷ drop (suc k) net.steps) start
        ∙ exec-append net dt (a ∷ []) (drop (suc k) net.steps) (before k) ∙ ap (exec net dt (drop (suc k) net.steps)) (exec-one net dt a (before k))

    before-next : (k : ℕ) (a : Action) → slice_get net.steps k ≡ Some a → before (suc k) ≡ done net dt a (before k)
    before-next k a at =
        ap (λ z. exec net dt z start) (take_next net.steps k a at) ∙ exec-append net dt (take k net.steps) (a ∷ []) start
        ∙ exec-one net dt a (before k)

    -- what a step writes stands at the end
    written_stays : (k : ℕ) (a : Action) (s : ℕ) → slice_get net.steps k ≡ Some a → drives net s a ≡ true →
        all.signals s ≡ written net dt a (before k) s
    written_stays k a s at h =
        ap (λ m. m.signals s) (all-after k a at)
        ∙ signal_stays net dt (drop (suc k) net.steps) (done net dt a (before k)) s (alone_after (drives net s) net.steps (sound.one_driver s) k a at h)
        ∙ cond-true (drives net s a) (written net dt a (before k) s) ((before k).signals s) h

    -- and so does the state that a call leaves
    called_stays : (k i : ℕ) (args : List Actual) → slice_get net.steps k ≡ Some (calls i args) →
        all.blocks i ≡ called_state net dt i args (before k)
    called_stays k i args at =
        let inside = sound.instances k i args at in
        ap (λ m. m.blocks i) (all-after k (calls i args) at)
        ∙ block_stays net dt (drop (suc k) net.steps) (done net dt (calls i args) (before k)) i
        (alone_after (is_call_of net i) net.steps (one_call i inside) k (calls i args) at (is_call_itself i args))
        ∙ cond-true (is_call_of net i (calls i args)) (called_state net dt i args (before k)) ((before k).blocks i) (is_call_itself i args)

    -- an instance has its old state up to its call
    old_until_call : (k i : ℕ) (args : List Actual) → slice_get net.steps k ≡ Some (calls i args) → (before k).blocks i ≡ block_in old i
    old_until_call k i args at =
        let inside = sound.instances k i args at in
        block_stays net dt (take k net.steps) start i
        (alone_before (is_call_of net i) net.steps (one_call i inside) k (calls i args) at (is_call_itself i args))

    -- a signal that is not new yet has its old value
    not_new : (k s : ℕ) → is_new net k s ≡ false → (before k).signals s ≡ signal_in old s
    not_new k s h =
        let parts = or_parts (nat_lt s (input_count net)) (list_any (drives net s) (take k net.steps)) h in
        signal_stays net dt (take k net.steps) start s parts.1
        ∙ cond-false (nat_lt s (input_count net)) (slice_index_or ins s false) (signal_in old s) parts.0

    -- a new one has the value of the end
    new_stays : (k s : ℕ) → is_new net k s ≡ true → (before k).signals s ≡ all.signals s
    new_stays k s h =
        ⊎_elim
        (λ y. let none = inputs_undriven s (ltb-true s (input_count net) y) in
        signal_stays net dt (take k net.steps) start s (none_of_first (drives net s) net.steps k none)
        ∙ sym (signal_stays net dt net.steps start s none))
        (λ y. sym (ap (λ m. m.signals s) (all-before k)
        ∙ signal_stays net dt (drop k net.steps) (before k) s (none_of_rest (drives net s) net.steps k (sound.one_driver s) y)))
        (or_cases (nat_lt s (input_count net)) (list_any (drives net s) (take k net.steps)) h)

    input_is : (s : ℕ) → s < input_count net → all.signals s ≡ slice_index_or ins s false
    input_is s h =
        signal_stays net dt net.steps start s (inputs_undriven s h)
        ∙ cond-true (nat_lt s (input_count net)) (slice_index_or ins s false) (signal_in old s) (lt-ltb s (input_count net) h)

    -- ---- a state that agrees with the memory step by step
    abbrev Agrees : State → ℕ → Type 0
    Agrees new k = (s : ℕ) → read_at net old new k s ≡ (before k).signals s

    same_value : (new : State) (k : ℕ) (e : Formula) → Agrees new k → value (read_at net old new k) e ≡ value (before k).signals e
    same_value new k e agrees = ap (λ v. value v e) (λ i s. agrees s i)

    same_step : (new : State) (k i : ℕ) (args : List Actual) → slice_get net.steps k ≡ Some (calls i args) → Agrees new k →
        moved (kind_at net i) (limit_of (kind_at net i) args) (pins_under (read_at net old new k) (kind_at net i) args) dt (block_in old i)
        ≡ called_state net dt i args (before k)
    same_step new k i args at agrees =
        ap (λ v. moved (kind_at net i) (limit_of (kind_at net i) args) (pins_under v (kind_at net i) args) dt (block_in old i)) (λ x s. agrees s x)
        ∙ ap (λ b. moved (kind_at net i) (limit_of (kind_at net i) args) (pins_under (before k).signals (kind_at net i) args) dt b) (sym (old_until_call k i args at))

    -- ---- the solution
    abbrev pub value_at_end : ℕ → Bool
    value_at_end s = cond (is_new net (length net.steps) s) (all.signals s) false

    abbrev pub solution : State
    solution = record {
      signals = map value_at_end (range_with_len 0 (signal_count net));
      blocks = map all.blocks (range_with_len 0 (instance_count net));
    }

    -- an input or a driven signal is new at the end
    new_at_end : (s : ℕ) → (nat_lt s (input_count net) || is_driven net s) ≡ true → is_new net (length net.steps) s ≡ true
    new_at_end s h =
        ap (λ z. nat_lt s (input_count net) || list_any (drives net s) z) (take_all (length net.steps) net.steps (omega arith)) ∙ h

    solution-signal : (s : ℕ) → s < signal_count net → signal_in solution s ≡ value_at_end s
    solution-signal s h = get_or-map-range_with_len value_at_end 0 (signal_count net) s s false h (omega arith)

    solution-block : (i : ℕ) → i < instance_count net → block_in solution i ≡ all.blocks i
    solution-block i h = get_or-map-range_with_len all.blocks 0 (instance_count net) i i idle h (omega arith)

    solution-new : (s : ℕ) → s < signal_count net → (nat_lt s (input_count net) || is_driven net s) ≡ true → signal_in solution s ≡ all.signals s
    solution-new s h new = solution-signal s h ∙ cond-true (is_new net (length net.steps) s) (all.signals s) false (new_at_end s new)

    inputs_below : (s : ℕ) → s < input_count net → s < signal_count net
    inputs_below s h = omega arith

    solution_agrees : (k : ℕ) → Agrees solution k
    solution_agrees k s =
        ⊎_elim
        (λ y. cond-true (is_new net k s) (signal_in solution s) (signal_in old s) y
        ∙ ⊎_elim
        (λ z. solution-new s (inputs_below s (ltb-true s (input_count net) z)) (or_left (nat_lt s (input_count net)) (is_driven net s) z))
        (λ z. let driven = any_of_first (drives net s) net.steps k z in
        solution-new s (driven_below s driven) (or_right (nat_lt s (input_count net)) (is_driven net s) driven))
        (or_cases (nat_lt s (input_count net)) (list_any (drives net s) (take k net.steps)) y)
        ∙ sym (new_stays k s y))
        (λ n. cond-false (is_new net k s) (signal_in solution s) (signal_in old s) n ∙ sym (not_new k s n))
        (cases_Bool (is_new net k s))

    -- what a step drives is in the solution what it wrote
    solution-written : (k : ℕ) (a : Action) (s : ℕ) → slice_get net.steps k ≡ Some a → drives net s a ≡ true →
        signal_in solution s ≡ written net dt a (before k) s
    solution-written k a s at h =
        let driven = any_at (drives net s) net.steps k a at h in
        solution-new s (driven_below s driven) (or_right (nat_lt s (input_count net)) (is_driven net s) driven)
        ∙ written_stays k a s at h

    drives_output : (i j : ℕ) (args : List Actual) → j < output_count (kind_at net i) → drives net (first_pin net i + j) (calls i args) ≡ true
    drives_output i j args h =
        and_from (nat_le (first_pin net i) (first_pin net i + j)) (nat_lt (first_pin net i + j) (first_pin net i + output_count (kind_at net i)))
        (le-leb (first_pin net i) (first_pin net i + j) (omega arith))
        (lt-ltb (first_pin net i + j) (first_pin net i + output_count (kind_at net i)) (omega arith))

    -- the call of an instance
    call_of : (i : ℕ) → i < instance_count net → (k : ℕ) × (args : List Actual) × (slice_get net.steps k ≡ Some (calls i args))
    call_of i h =
        let r = place_of (is_call_of net i) net.steps (any_of_one (is_call_of net i) net.steps (sound.called_once i h)) in
        let c = call_is i r.1 r.3 in
        (r.0, c.0, r.2 ∙ ap Some c.1)

    pub solution_solves : Solves net old ins dt solution
    solution_solves = record {
      signal_each = length-map-range_with_len value_at_end 0 (signal_count net);
      block_each = length-map-range_with_len all.blocks 0 (instance_count net);
      inputs = λ s h. solution-new s (inputs_below s h) (or_left (nat_lt s (input_count net)) (is_driven net s) (lt-ltb s (input_count net) h)) ∙ input_is s h;
      assigned = λ k t e at. solution-written k (assigns t e) t at (eq-eqb t t refl) ∙ sym (same_value solution k e (solution_agrees k));
      undriven = λ s low none.
          ⊎_elim
          (λ h. solution-signal s h
          ∙ cond-false (is_new net (length net.steps) s) (all.signals s) false
          (ap (λ z. nat_lt s (input_count net) || list_any (drives net s) z) (take_all (length net.steps) net.steps (omega arith))
          ∙ or_from (nat_lt s (input_count net)) (is_driven net s) (le-ltb s (input_count net) low) none))
          (λ h. get_or_past solution.signals s false (omega (arith, length-map-range_with_len value_at_end 0 (signal_count net))))
          (cases_lt s (signal_count net));
      called = λ k i args at.
          solution-block i (sound.instances k i args at) ∙ called_stays k i args at ∙ sym (same_step solution k i args at (solution_agrees k));
      pin_outputs = λ i j inside h.
          let c = call_of i inside in
          let state : block_in solution i ≡ called_state net dt i c.1 (before c.0) = solution-block i inside ∙ called_stays c.0 i c.1 c.2 in
          solution-written c.0 (calls i c.1) (first_pin net i + j) c.2 (drives_output i j c.1 h)
          ∙ ap (λ b. slice_index_or (outs (kind_at net i) b.code b.mode) (first_pin net i + j - first_pin net i) false) (sym state)
          ∙ ap (λ x. slice_index_or (outs (kind_at net i) (block_in solution i).code (block_in solution i).mode) x false) (omega arith);
    }

    -- ---- any other state that solves is the same
    module _ (new : State) (solves : Solves net old ins dt new) where
      -- what a step drives is in any solution what it wrote
      other-written : (k : ℕ) (a : Action) (s : ℕ) → slice_get net.steps k ≡ Some a → drives net s a ≡ true → Agrees new k →
          signal_in new s ≡ written net dt a (before k) s
      other-written k (assigns t e) s at h agrees =
          ap (signal_in new) (sym (eqb-true t s h)) ∙ solves.assigned k t e at ∙ same_value new k e agrees
      other-written k (calls i args) s at h agrees =
          let both = and_parts (nat_le (first_pin net i) s) (nat_lt s (first_pin net i + output_count (kind_at net i))) h in
          let low = leb-true (first_pin net i) s both.0 in
          let high = ltb-true s (first_pin net i + output_count (kind_at net i)) both.1 in
          ap (signal_in new) (omega arith)
          ∙ solves.pin_outputs i (s - first_pin net i) (sound.instances k i args at) (omega arith)
          ∙ ap (λ b. slice_index_or (outs (kind_at net i) b.code b.mode) (s - first_pin net i) false)
          (solves.called k i args at ∙ same_step new k i args at agrees)

      other_agrees : (k : ℕ) → k ≤ length net.steps → Agrees new k
      unfolding exec
      other_agrees zero h s =
          ⊎_elim
          (λ y. cond-true (is_new net 0 s) (signal_in new s) (signal_in old s) (or_left (nat_lt s (input_count net)) false y)
          ∙ solves.inputs s (ltb-true s (input_count net) y)
          ∙ sym (cond-true (nat_lt s (input_count net)) (slice_index_or ins s false) (signal_in old s) y))
          (λ n. cond-false (is_new net 0 s) (signal_in new s) (signal_in old s) (or_from (nat_lt s (input_count net)) false n refl)
          ∙ sym (not_new 0 s (or_from (nat_lt s (input_count net)) false n refl)))
          (cases_Bool (nat_lt s (input_count net)))
      other_agrees (suc k) h s =
          let here = element_at net.steps k (omega arith) in
          let earlier = other_agrees k (omega arith) in
          let grows : is_new net (suc k) s ≡ (is_new net k s || drives net s here.0) = new_after_step net k s here.0 here.1 in
          ⊎_elim
          (λ y. cond-true (is_new net (suc k) s) (signal_in new s) (signal_in old s) (grows ∙ or_right (is_new net k s) (drives net s here.0) y)
          ∙ other-written k here.0 s here.1 y earlier
          ∙ sym (cond-true (drives net s here.0) (written net dt here.0 (before k) s) ((before k).signals s) y)
          ∙ sym (ap (λ m. m.signals s) (before-next k here.0 here.1)))
          (λ n. ap (λ b. cond b (signal_in new s) (signal_in old s)) (grows ∙ not_more (is_new net k s) (drives net s here.0) n)
          ∙ earlier s
          ∙ sym (cond-false (drives net s here.0) (written net dt here.0 (before k) s) ((before k).signals s) n)
          ∙ sym (ap (λ m. m.signals s) (before-next k here.0 here.1)))
          (cases_Bool (drives net s here.0))

      pub other-signal : (s : ℕ) → s < signal_count net → signal_in new s ≡ value_at_end s
      other-signal s h =
          ⊎_elim
          (λ y. sym (cond-true (is_new net (length net.steps) s) (signal_in new s) (signal_in old s) y)
          ∙ other_agrees (length net.steps) (omega arith) s
          ∙ new_stays (length net.steps) s y
          ∙ sym (cond-true (is_new net (length net.steps) s) (all.signals s) false y))
          (λ n. let parts = or_parts (nat_lt s (input_count net)) (list_any (drives net s) (take (length net.steps) net.steps)) n in
          solves.undriven s (ltb-false s (input_count net) parts.0)
          (ap (list_any (drives net s)) (sym (take_all (length net.steps) net.steps (omega arith))) ∙ parts.1)
          ∙ sym (cond-false (is_new net (length net.steps) s) (all.signals s) false n))
          (cases_Bool (is_new net (length net.steps) s))

      pub other-block : (i : ℕ) → i < instance_count net → block_in new i ≡ all.blocks i
      other-block i h =
          let c = call_of i h in
          solves.called c.0 i c.1 c.2
          ∙ same_step new c.0 i c.1 c.2 (other_agrees c.0 (let within = slice_get_within net.steps c.0 (calls i c.1) c.2 in omega arith))
          ∙ sym (called_stays c.0 i c.1 c.2)

      other_signals : new.signals ≡ solution.signals
      other_signals =
          ext_get_or false new.signals solution.signals
          (solves.signal_each ∙ sym (length-map-range_with_len value_at_end 0 (signal_count net)))
          (λ s h. let inside : s < signal_count net = omega (arith, solves.signal_each) in other-signal s inside ∙ sym (solution-signal s inside))

      other_blocks : new.blocks ≡ solution.blocks
      other_blocks =
          ext_get_or idle new.blocks solution.blocks
          (solves.block_each ∙ sym (length-map-range_with_len all.blocks 0 (instance_count net)))
          (λ i h. let inside : i < instance_count net = omega (arith, solves.block_each) in other-block i inside ∙ sym (solution-block i inside))

      pub other_is : new ≡ solution
      other_is = λ i. record { signals = other_signals i; blocks = other_blocks i }

    pub has_one_solution : HasOneSolution net old ins dt
    has_one_solution = record { solution = solution; solves = solution_solves; only = other_is }

    -- a state with the values of the end, and FALSE where nothing drives a signal, solves
    pub solves_from : (w : State) → length w.signals ≡ signal_count net → length w.blocks ≡ instance_count net →
        ((s : ℕ) → signal_in w s ≡ cond (is_kept net s) (all.signals s) false) →
        ((i : ℕ) → block_in w i ≡ all.blocks i) → Solves net old ins dt w
    solves_from w signal_each block_each signals blocks =
        let kept : (s : ℕ) → is_new net (length net.steps) s ≡ is_kept net s =
        λ s. ap (λ z. nat_lt s (input_count net) || list_any (drives net s) z) (take_all (length net.steps) net.steps (omega arith)) in
        let signals_are : w.signals ≡ solution.signals =
        ext_get_or false w.signals solution.signals
        (signal_each ∙ sym (length-map-range_with_len value_at_end 0 (signal_count net)))
        (λ s h. signals s ∙ ap (λ b. cond b (all.signals s) false) (sym (kept s)) ∙ sym (solution-signal s (omega (arith, signal_each)))) in
        let blocks_are : w.blocks ≡ solution.blocks =
        ext_get_or idle w.blocks solution.blocks
        (block_each ∙ sym (length-map-range_with_len all.blocks 0 (instance_count net)))
        (λ i h. blocks i ∙ sym (solution-block i (omega (arith, block_each)))) in
        let same : solution ≡ w = λ i. record { signals = (sym signals_are) i; blocks = (sym blocks_are) i } in
        subst (Solves net old ins dt) same solution_solves
