-- What is kept for each signal stays right from step to step.
use Rattle.std.proofs.Common.{◌≡◌, ℕ, suc, ◌+◌, ◌-◌, ◌≤◌, ◌<◌, true, false, List, ◌++◌, take, drop, length, Some, sym, ap, ◌∙◌, subst, inl, inr, ⊎_elim, arith, length-append, length-drop}
use Rattle.std.specs.Prelude.{slice_get, slice_index_or, slice_set, nat_le, nat_lt, ◌==◌}
use Rattle.std.proofs.lemmas.Bool.{cases_Bool, cases_lt, true≢false, and_parts, and_from, cond-true, cond-false, eqb-true, eq-eqb, leb-true, ltb-true, le-leb, lt-ltb}
use Rattle.std.proofs.lemmas.List.{get_or-take, get_or-drop, get_or-append-add, get_or_append_left, get_or-set_same, get_or-set_other, set-get_or, length-take-le}
use Rattle.ps_model.specs.Blocks.{block, output_count}
use Rattle.ps_model.specs.Formula.{Formula}
use Rattle.ps_model.specs.Action.{Actual, Action, assigns, calls}
use Rattle.ps_model.specs.Network.{Network, signal_count, kind_at, first_pin, drives}
use Rattle.ps_model.specs.Sound.{IsSound}
use Rattle.ps_model.specs.Typing.{is_safe_signal}
use Rattle.ps_model.proofs.OutputLengths.{output_count_is}
use Rattle.ps_model.proofs.OneSolution.{first_pin_range}
use Rattle.ps_demand.specs.Requirement.{Requirement}
use Rattle.ps_demand.specs.Demand.{demand_over, output_demand, after_step, demand_read}
use Rattle.ps_demand.proofs.SafeOutputs.{safe_below}

-- ---- a list over which others are written from a place on
module _ {X : Type 0} (first : ℕ) (values rows : List X) (d : X) (room : first + length values ≤ length rows) where
  abbrev pub over : List X
  over = take first rows ++ (values ++ drop (first + length values) rows)

  front : length (take first rows) ≡ first
  front = length-take-le first rows (omega arith)

  pub read_written : (j : ℕ) → j < length values → slice_index_or over (first + j) d ≡ slice_index_or values j d
  read_written j inside =
      ap (λ n. slice_index_or over (n + j) d) (sym front)
      ∙ get_or-append-add (take first rows) (values ++ drop (first + length values) rows) j d
      ∙ get_or_append_left values (drop (first + length values) rows) d j inside

  pub read_before : (s : ℕ) → s < first → slice_index_or over s d ≡ slice_index_or rows s d
  read_before s small =
      get_or_append_left (take first rows) (values ++ drop (first + length values) rows) d s (omega (arith, front))
      ∙ get_or-take first rows s d small

  pub read_behind : (s : ℕ) → first + length values ≤ s → slice_index_or over s d ≡ slice_index_or rows s d
  read_behind s past =
      let j = s - (first + length values) in
      let place : s ≡ length (take first rows) + (length values + j) = omega (arith, front) in
      ap (λ n. slice_index_or over n d) place
      ∙ get_or-append-add (take first rows) (values ++ drop (first + length values) rows) (length values + j) d
      ∙ get_or-append-add values (drop (first + length values) rows) j d
      ∙ get_or-drop (first + length values) rows j d
      ∙ (let back : (first + length values) + j ≡ s = omega arith in ap (λ n. slice_index_or rows n d) back)

  pub length-over : length over ≡ length rows
  length-over = omega (
    arith,
    front,
    length-append (take first rows) (values ++ drop (first + length values) rows),
    length-append values (drop (first + length values) rows),
    length-drop (first + length values) rows,
  )

-- ---- R says what is right to keep for a signal of which this is demanded
module _ {X : Type 0} (R : ℕ → Requirement → X → Type 0) (d : X) (net : Network) where
  -- for each safe signal what is kept is right, as step k reads it
  abbrev pub AreRight : ℕ → List X → Type 0
  AreRight k rows = (s : ℕ) → s < signal_count net → is_safe_signal net s ≡ true → R s (demand_read net k s) (slice_index_or rows s d)

  after : (k s : ℕ) (a : Action) (x : X) → slice_get net.steps k ≡ Some a → R s (after_step net k (Some a) (demand_read net k) s) x → R s (demand_read net (k + 1) s) x
  after k s a x at h =
      let next : k + 1 ≡ suc k = omega arith in
      subst (λ n. R s (demand_read net n s) x) (sym next)
      (subst (λ o. R s (after_step net k o (demand_read net k) s) x) (sym at) h)

  -- a safe signal is assigned
  pub assigned_right : (k t : ℕ) (e : Formula) (x : X) (rows : List X) → slice_get net.steps k ≡ Some (assigns t e) → t < length rows →
      AreRight k rows → R t (demand_over net (demand_read net k) e) x → AreRight (k + 1) (slice_set rows t x)
  assigned_right k t e x rows at inside right new s below is =
      let it = demand_over net (demand_read net k) e in
      after k s (assigns t e) (slice_index_or (slice_set rows t x) s d) at
      (⊎_elim
      (λ here.
      let same : t ≡ s = eqb-true t s here in
      subst (λ q. R s q (slice_index_or (slice_set rows t x) s d)) (sym (cond-true (t == s) it (demand_read net k s) here))
      (subst (λ y. R s it y) (sym (ap (λ n. slice_index_or (slice_set rows t x) n d) (sym same) ∙ get_or-set_same rows t x d inside))
      (subst (λ n. R n it x) same new)))
      (λ other.
      subst (λ q. R s q (slice_index_or (slice_set rows t x) s d)) (sym (cond-false (t == s) it (demand_read net k s) other))
      (subst (λ y. R s (demand_read net k s) y) (sym (get_or-set_other rows t s x d (λ same. true≢false (sym (eq-eqb t s (sym same)) ∙ other)))) (right s below is)))
      (cases_Bool (t == s)))

  -- a BOOL signal is assigned
  pub skipped_right : (k t : ℕ) (e : Formula) (rows : List X) → slice_get net.steps k ≡ Some (assigns t e) → is_safe_signal net t ≡ false →
      AreRight k rows → AreRight (k + 1) rows
  skipped_right k t e rows at plain right s below is =
      let it = demand_over net (demand_read net k) e in
      let other : (t == s) ≡ false =
      ⊎_elim (λ here. absurd (true≢false (sym is ∙ ap (is_safe_signal net) (sym (eqb-true t s here)) ∙ plain))) (λ other. other) (cases_Bool (t == s)) in
      after k s (assigns t e) (slice_index_or rows s d) at
      (subst (λ q. R s q (slice_index_or rows s d)) (sym (cond-false (t == s) it (demand_read net k s) other)) (right s below is))

  -- an instance is called
  module _ (sound : IsSound net) (k i : ℕ) (args : List Actual) (at : slice_get net.steps k ≡ Some (calls i args)) where
    pub values_fit : (rows values : List X) → length rows ≡ signal_count net → length values ≡ length (block (kind_at net i)).outputs →
        first_pin net i + length values ≤ length rows
    values_fit rows values long count =
        let range = first_pin_range net sound i (sound.instances k i args at) in
        omega (arith, output_count_is (kind_at net i))

    pub called_right : (rows values : List X) → length rows ≡ signal_count net → length values ≡ length (block (kind_at net i)).outputs →
        AreRight k rows →
        ((j : ℕ) → j < length (block (kind_at net i)).outputs →
        R (first_pin net i + j) (output_demand net k (demand_read net k) (kind_at net i) args j) (slice_index_or values j d)) →
        AreRight (k + 1) (take (first_pin net i) rows ++ (values ++ drop (first_pin net i + length values) rows))
    called_right rows values long count right new s below is =
        let kind = kind_at net i in
        let first = first_pin net i in
        let inside = sound.instances k i args at in
        let room = values_fit rows values long count in
        let whole = over first values rows d room in
        let its_own = output_demand net k (demand_read net k) kind args (s - first) in
        let driven = drives net s (calls i args) in
        after k s (calls i args) (slice_index_or whole s d) at
        (⊎_elim
        (λ here.
        let both = and_parts (nat_le first s) (nat_lt s (first + output_count kind)) here in
        let low = leb-true first s both.0 in
        let high = ltb-true s (first + output_count kind) both.1 in
        let place : s ≡ first + (s - first) = omega arith in
        let small = safe_below net sound i (s - first) inside (omega arith) (ap (is_safe_signal net) (sym place) ∙ is) in
        let within : s - first < length values = omega arith in
        subst (λ q. R s q (slice_index_or whole s d)) (sym (cond-true driven its_own (demand_read net k s) here))
        (subst (λ y. R s its_own y)
        (sym (ap (λ n. slice_index_or whole n d) place ∙ read_written first values rows d room (s - first) within))
        (subst (λ n. R n its_own (slice_index_or values (s - first) d)) (sym place) (new (s - first) small))))
        (λ other.
        let beside : slice_index_or whole s d ≡ slice_index_or rows s d =
        elim (cases_lt s first) [
          | inl small ↦ read_before first values rows d room s small
          | inr low ↦
              elim (cases_lt s (first + output_count kind)) [
                | inl high ↦
                    absurd (true≢false (sym (and_from (nat_le first s) (nat_lt s (first + output_count kind)) (le-leb first s low) (lt-ltb s (first + output_count kind) high)) ∙ other))
                | inr past ↦ read_behind first values rows d room s (omega (arith, output_count_is kind))
              ]
        ] in
        subst (λ q. R s q (slice_index_or whole s d)) (sym (cond-false driven its_own (demand_read net k s) other))
        (subst (λ y. R s (demand_read net k s) y) (sym beside) (right s below is)))
        (cases_Bool driven))

-- a signal is assigned whose row is right as it is
module _ {X : Type 0} (R : ℕ → Requirement → X → Type 0) (d : X) (net : Network) where
  pub unwritten_right : (k t : ℕ) (e : Formula) (rows : List X) → slice_get net.steps k ≡ Some (assigns t e) → t < length rows →
      AreRight R d net k rows → R t (demand_over net (demand_read net k) e) (slice_index_or rows t d) → AreRight R d net (k + 1) rows
  unwritten_right k t e rows at inside right h =
      subst (AreRight R d net (k + 1)) (set-get_or rows t d) (assigned_right R d net k t e (slice_index_or rows t d) rows at inside right h)
