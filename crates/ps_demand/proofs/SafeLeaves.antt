-- No leaf of a demand is BOOL.
use Rattle.std.proofs.Common.{◌≡◌, ℕ, zero, suc, ◌≤◌, ◌-◌, Bool, true, false, not, ◌==◌, List, [], ◌∷◌, ◌++◌, Option, None, Some, map, length, nat_lt, slice_get, cond, if◌then◌else◌, refl, sym, ap, subst, ◌∙◌, inl, inr, arith}
use Rattle.std.specs.Prelude.{◌||◌, slice_index_or, flat_map}
use Rattle.std.specs.List.{AllByRecursion, list_any}
use Rattle.std.proofs.lemmas.Bool.{and_parts, cases_lt, eqb-true, false≢true}
use Rattle.ps_model.specs.declared.kind.Kind.{Kind}
use Rattle.ps_model.specs.declared.kind.Kind.TheVariants.{Equivalent, Antivalent, EmergencyStop, Espe, ModeSelector, TwoHandTwo, TwoHandThree, GuardMonitoring, GuardLocking, EnableSwitch, SafetyRequest, OutControl, Edm}
use Rattle.ps_model.specs.declared.kind.Ty.{Ty}
use Rattle.ps_model.specs.declared.kind.Ty.TheVariants.{Safe, Bool as Plain, Time}
use Rattle.ps_model.specs.declared.demands.Need.{Need}
use Rattle.ps_model.specs.declared.demands.Need.TheVariants.{On, Off}
use Rattle.ps_model.specs.Formula.{Formula, Formulas, signal, all_of, any_of, no_operand, operand}
use Rattle.ps_model.specs.Action.{Actual, Action, free, literal, time, wired, assigns, calls}
use Rattle.ps_model.specs.Blocks.{block}
use Rattle.ps_model.specs.Demand.{demand as pin_formula}
use Rattle.ps_model.specs.Network.{Network, input_count, kind_at, first_pin, drives, is_new}
use Rattle.ps_model.specs.Scanning.{pin_at}
use Rattle.ps_model.specs.Typing.{Accepted, MayStand, safe, is_safe_signal, is_safe_type, each_safe}
use Rattle.ps_demand.specs.declared.join.Join.{Join}
use Rattle.ps_demand.specs.declared.join.Join.TheVariants.{And, Or}
use Rattle.ps_demand.specs.Requirement.{Requirement, Requirements, always, never, now, before, not_now, not_before, group, no_part, part, requirements, parts, same}
use Rattle.ps_demand.specs.Demand.{constant, conjunction, demand_over, safe_demands, all_demands, demand_at_pin, negated_signal, negated_at_pin, demand_of_need, output_demand, after_step, demand_read, demand_at, demand}
use Rattle.ps_demand.specs.Slim.{neutral, deciding, parts_within, telling, gathered, joined, slim, slim_parts}
use Rattle.ps_demand.specs.Leaves.{leaf_signals, leaf_signals_of, HasSafeLeaves, LeavesAreSafe}

-- ---- lists

all_append : {X : Type 0} (P : X → Type 0) (xs ys : List X) → AllByRecursion P xs → AllByRecursion P ys → AllByRecursion P (xs ++ ys)
all_append P [] ys h k = k
all_append P (x ∷ xs) ys h k = (h.0, all_append P xs ys h.1 k)

all_left : {X : Type 0} (P : X → Type 0) (xs ys : List X) → AllByRecursion P (xs ++ ys) → AllByRecursion P xs
all_left P [] ys h = tt
all_left P (x ∷ xs) ys h = (h.0, all_left P xs ys h.1)

all_right : {X : Type 0} (P : X → Type 0) (xs ys : List X) → AllByRecursion P (xs ++ ys) → AllByRecursion P ys
all_right P [] ys h = h
all_right P (x ∷ xs) ys h = all_right P xs ys h.1

all_map : {X Y : Type 0} (P : X → Type 0) (Q : Y → Type 0) (f : X → Y) (xs : List X) → ((x : X) → P x → Q (f x)) → AllByRecursion P xs → AllByRecursion Q (map f xs)
all_map P Q f [] g h = tt
all_map P Q f (x ∷ xs) g h = (g x h.0, all_map P Q f xs g h.1)

-- one of two that are there
either : {X : Type 0} (P : X → Type 0) (b : Bool) (x y : X) → (b ≡ true → P x) → (b ≡ false → P y) → P (cond b x y)
either P true x y h k = h refl
either P false x y h k = k refl

-- ---- the pins under "not" are SAFEBOOL

abbrev IsSafePin : Kind → Need → Type 0
IsSafePin kind (On p) = Unit {0}
IsSafePin kind (Off p) = (pin_at kind p).ty ≡ Safe

needs_safe : (kind : Kind) (j : ℕ) → AllByRecursion (IsSafePin kind) (pin_formula kind j)
unfolding block
needs_safe Equivalent j = (tt, (tt, tt))
needs_safe Antivalent j = (tt, (refl, tt))
needs_safe EmergencyStop j = (tt, tt)
needs_safe Espe j = (tt, tt)
needs_safe ModeSelector j = tt
needs_safe TwoHandTwo j = (tt, (tt, tt))
needs_safe TwoHandThree j = (tt, (tt, tt))
needs_safe GuardMonitoring j = (tt, (tt, tt))
needs_safe GuardLocking zero = (tt, (tt, tt))
needs_safe GuardLocking (suc j) = (tt, tt)
needs_safe EnableSwitch j = (tt, (tt, (tt, tt)))
needs_safe SafetyRequest zero = (tt, (refl, tt))
needs_safe SafetyRequest (suc j) = (tt, tt)
needs_safe OutControl j = (tt, (tt, tt))
needs_safe Edm j = (tt, tt)

safe_is : (ty : Ty) → is_safe_type ty ≡ true → ty ≡ Safe
safe_is Safe h = refl
safe_is Plain h = absurd (false≢true h)
safe_is Time h = absurd (false≢true h)

module _ (net : Network) where
  abbrev Has : Requirement → Type 0
  Has d = HasSafeLeaves net d

  abbrev IsSafeIn : ℕ → Type 0
  IsSafeIn s = is_safe_signal net s ≡ true

  abbrev HaveAll : Requirements → Type 0
  HaveAll ds = AllByRecursion IsSafeIn (leaf_signals_of ds)

  constant_has : (b : Bool) → Has (constant b)
  constant_has true = tt
  constant_has false = tt

  have_all : (ds : List Requirement) → AllByRecursion Has ds → HaveAll (requirements ds)
  have_all [] h = tt
  have_all (d ∷ ds) h = all_append IsSafeIn (leaf_signals d) (leaf_signals_of (requirements ds)) h.0 (have_all ds h.1)

  conjunction_has : (ds : List Requirement) → AllByRecursion Has ds → Has (conjunction ds)
  conjunction_has [] h = tt
  conjunction_has (d ∷ []) h = h.0
  conjunction_has (d ∷ e ∷ ds) h = have_all (d ∷ e ∷ ds) h

  -- ---- values

  module _ (leaves : ℕ → Requirement) (leaf : (s : ℕ) → is_safe_signal net s ≡ true → Has (leaves s)) where
    mutual
      over_has : (e : Formula) → safe net e ≡ true → Has (demand_over net leaves e)
      over_has (signal s) is = leaf s is
      over_has (all_of es) is = safe_have es
      over_has (any_of es) is = each_has es is

      safe_have : (es : Formulas) → HaveAll (safe_demands net leaves es)
      safe_have no_operand = tt
      safe_have (operand e es) =
          either HaveAll (safe net e) (part (demand_over net leaves e) (safe_demands net leaves es)) (safe_demands net leaves es)
          (λ is. all_append IsSafeIn (leaf_signals (demand_over net leaves e)) (leaf_signals_of (safe_demands net leaves es)) (over_has e is) (safe_have es))
          (λ other. safe_have es)

      each_has : (es : Formulas) → each_safe net es ≡ true → HaveAll (all_demands net leaves es)
      each_has no_operand is = tt
      each_has (operand e es) is =
          let both = and_parts (safe net e) (each_safe net es) is in
          all_append IsSafeIn (leaf_signals (demand_over net leaves e)) (leaf_signals_of (all_demands net leaves es)) (over_has e both.0) (each_has es both.1)

    -- ---- calls

    at_pin_has : (default : Bool) (ty : Ty) (a : Actual) → MayStand net ty a → ty ≡ Safe → Has (demand_at_pin net leaves default a)
    at_pin_has default ty free h is = constant_has default
    at_pin_has default ty (literal b) h is = constant_has b
    at_pin_has default ty (time t) h is = tt
    at_pin_has default ty (wired e) h is = over_has e (h.1 is)

    negated_has : (k s : ℕ) → is_safe_signal net s ≡ true → Has (negated_signal net k s)
    negated_has k s is =
        either Has (nat_lt s (input_count net)) (not_now s) (if is_new net k s then always else not_before s) (λ _. (is, tt))
        (λ _. either Has (is_new net k s) always (not_before s) (λ _. tt) (λ _. (is, tt)))

    negated_pin_has : (k : ℕ) (default : Bool) (ty : Ty) (a : Actual) → MayStand net ty a → ty ≡ Safe → Has (negated_at_pin net k default a)
    negated_pin_has k default ty free h is = constant_has (not default)
    negated_pin_has k default ty (literal b) h is = constant_has (not b)
    negated_pin_has k default ty (time t) h is = tt
    negated_pin_has k default ty (wired (signal s)) h is = negated_has k s (h.1 is)
    negated_pin_has k default ty (wired (all_of es)) h is = tt
    negated_pin_has k default ty (wired (any_of es)) h is = tt

    module _ (k : ℕ) (kind : Kind) (args : List Actual) (stand : (j : ℕ) → MayStand net (pin_at kind j).ty (slice_index_or args j free)) where
      need_has : (need : Need) → IsSafePin kind need → Has (demand_of_need net k leaves kind args need)
      need_has (On p) h =
          either Has (is_safe_type (pin_at kind p).ty) (demand_at_pin net leaves (pin_at kind p).free (slice_index_or args p free)) always
          (λ is. at_pin_has (pin_at kind p).free (pin_at kind p).ty (slice_index_or args p free) (stand p) (safe_is (pin_at kind p).ty is)) (λ _. tt)
      need_has (Off p) h = negated_pin_has k (pin_at kind p).free (pin_at kind p).ty (slice_index_or args p free) (stand p) h

      output_has : (j : ℕ) → Has (output_demand net k leaves kind args j)
      output_has j =
          conjunction_has (map (demand_of_need net k leaves kind args) (pin_formula kind j))
          (all_map (IsSafePin kind) Has (demand_of_need net k leaves kind args) (pin_formula kind j) need_has (needs_safe kind j))

  -- ---- made slim

  module _ (join : Join) where
    within_has : (d : Requirement) → Has d → AllByRecursion Has (parts_within join d)
    within_has d h = within join d h
      where
        each : (ds : Requirements) → HaveAll ds → AllByRecursion Has (parts ds)
        each no_part h = tt
        each (part d ds) h = (all_left IsSafeIn (leaf_signals d) (leaf_signals_of ds) h, each ds (all_right IsSafeIn (leaf_signals d) (leaf_signals_of ds) h))

        within : (join : Join) (d : Requirement) → Has d → AllByRecursion Has (parts_within join d)
        within And always h = (h, tt)
        within And never h = (h, tt)
        within And (now s) h = (h, tt)
        within And (before s) h = (h, tt)
        within And (not_now s) h = (h, tt)
        within And (not_before s) h = (h, tt)
        within And (group And ds) h = each ds h
        within And (group Or ds) h = (h, tt)
        within Or always h = (h, tt)
        within Or never h = (h, tt)
        within Or (now s) h = (h, tt)
        within Or (before s) h = (h, tt)
        within Or (not_now s) h = (h, tt)
        within Or (not_before s) h = (h, tt)
        within Or (group And ds) h = (h, tt)
        within Or (group Or ds) h = each ds h

    all_within : (ds : List Requirement) → AllByRecursion Has ds → AllByRecursion Has (flat_map (parts_within join) ds)
    all_within [] h = tt
    all_within (d ∷ ds) h = all_append Has (parts_within join d) (flat_map (parts_within join) ds) (within_has d h.0) (all_within ds h.1)

    telling_has : (earlier ds : List Requirement) → AllByRecursion Has ds → AllByRecursion Has (telling join earlier ds)
    telling_has earlier [] h = tt
    telling_has earlier (d ∷ ds) h =
        either (AllByRecursion Has) (same d (neutral join) || list_any (same d) earlier) (telling join earlier ds) (d ∷ telling join (earlier ++ d ∷ []) ds)
        (λ _. telling_has earlier ds h.1) (λ _. (h.0, telling_has (earlier ++ d ∷ []) ds h.1))

    gathered_has : (ds : List Requirement) → AllByRecursion Has ds → Has (gathered join ds)
    gathered_has [] h = none_has join
      where
        none_has : (join : Join) → Has (neutral join)
        none_has And = tt
        none_has Or = tt
    gathered_has (d ∷ []) h = h.0
    gathered_has (d ∷ e ∷ ds) h = have_all (d ∷ e ∷ ds) h

    joined_has : (ds : List Requirement) → AllByRecursion Has ds → Has (joined join ds)
    joined_has ds h =
        let all = flat_map (parts_within join) ds in
        either Has (list_any (same (deciding join)) all) (deciding join) (gathered join (telling join [] all)) (λ _. deciding_has join)
        (λ _. gathered_has (telling join [] all) (telling_has [] all (all_within ds h)))
      where
        deciding_has : (join : Join) → Has (deciding join)
        deciding_has And = tt
        deciding_has Or = tt

  mutual
    slim_has : (d : Requirement) → Has d → Has (slim d)
    slim_has always h = h
    slim_has never h = h
    slim_has (now s) h = h
    slim_has (before s) h = h
    slim_has (not_now s) h = h
    slim_has (not_before s) h = h
    slim_has (group join ds) h = joined_has join (slim_parts ds) (slim_have ds h)

    slim_have : (ds : Requirements) → HaveAll ds → AllByRecursion Has (slim_parts ds)
    slim_have no_part h = tt
    slim_have (part d ds) h = (
      slim_has d (all_left IsSafeIn (leaf_signals d) (leaf_signals_of ds) h),
      slim_have ds (all_right IsSafeIn (leaf_signals d) (leaf_signals_of ds) h),
    )

  -- ---- steps

  module _ (accepted : Accepted net) where
    -- past the arguments of a call nothing stands
    past_args : (args : List Actual) (j : ℕ) → length args ≤ j → slice_index_or args j free ≡ free
    past_args [] j h = refl
    past_args (a ∷ args) zero h = absurd (omega (arith, h))
    past_args (a ∷ args) (suc j) h = past_args args j (omega arith)

    stands : (k i : ℕ) (args : List Actual) → slice_get net.steps k ≡ Some (calls i args) → (j : ℕ) → MayStand net (pin_at (kind_at net i) j).ty (slice_index_or args j free)
    stands k i args at j =
        elim (cases_lt j (length args)) [
          | inl within ↦ accepted.at_pins k i j args at within
          | inr past ↦ subst (MayStand net (pin_at (kind_at net i) j).ty) (sym (past_args args j past)) tt
        ]

    step_has : (k : ℕ) (o : Option Action) → slice_get net.steps k ≡ o → (s : ℕ) → is_safe_signal net s ≡ true →
        ((x : ℕ) → is_safe_signal net x ≡ true → Has (demand_read net k x)) → Has (after_step net k o (demand_read net k) s)
    step_has k None at s is earlier = earlier s is
    step_has k (Some (assigns t e)) at s is earlier =
        either Has (t == s) (demand_over net (demand_read net k) e) (demand_read net k s)
        (λ here. over_has (demand_read net k) earlier e (accepted.assigned k t e at (ap (is_safe_signal net) (eqb-true t s here) ∙ is)))
        (λ _. earlier s is)
    step_has k (Some (calls i args)) at s is earlier =
        either Has (drives net s (calls i args)) (output_demand net k (demand_read net k) (kind_at net i) args (s - first_pin net i)) (demand_read net k s)
        (λ _. output_has (demand_read net k) earlier k (kind_at net i) args (stands k i args at) (s - first_pin net i))
        (λ _. earlier s is)

    read_has : (k s : ℕ) → is_safe_signal net s ≡ true → Has (demand_read net k s)
    read_has zero s is = either Has (nat_lt s (input_count net)) (now s) (before s) (λ _. (is, tt)) (λ _. (is, tt))
    read_has (suc k) s is = step_has k (slice_get net.steps k) refl s is (λ x y. read_has k x y)

    pub leaves_are_safe : LeavesAreSafe net
    leaves_are_safe = record {
      of_values = λ k e is. over_has (demand_read net k) (read_has k) e is;
      of_signals = λ s is. read_has (length net.steps) s is;
      slim_values = λ k e is. slim_has (demand_at net k e) (over_has (demand_read net k) (read_has k) e is);
      slim_signals = λ s is. slim_has (demand net s) (read_has (length net.steps) s is);
    }
