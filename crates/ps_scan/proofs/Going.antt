-- A step takes a scan that is midway on.
use Rattle.std.proofs.Common.{◌≡◌, ◌≢◌, ℕ, suc, ◌+◌, ◌-◌, ◌<◌, ◌≤◌, Bool, true, false, cond, List, [], ◌∷◌, ◌&&◌, ◌||◌, length, take, set, get_or, Some, refl, sym, ap, ◌∙◌, subst, arith, ⊎_elim, inl, inr, ◌⊎◌}
use Rattle.std.specs.Prelude.{nat_lt, nat_le, ◌==◌, slice_get}
use Rattle.std.specs.List.{list_any}
use Rattle.std.proofs.lemmas.List.Folds.{list_any-append}
use Rattle.std.proofs.lemmas.List.{get_or-set_same, get_or-set_other, length-set}
use Rattle.std.proofs.lemmas.Bool.{true≢false, cases_Bool, or_right, cond-true, cond-false, eqb-true, eqb-false, eq-eqb}
use Rattle.ps_model.specs.Formula.{Formula, value}
use Rattle.ps_model.specs.Action.{Action, Actual, assigns, calls}
use Rattle.ps_model.specs.Blocks.{Block_state, outs, output_count}
use Rattle.ps_model.specs.Kept.{Kept, StandsBy, Since, stepped_at}
use Rattle.ps_model.specs.Network.{Network, kind_at, first_pin, is_call_of}
use Rattle.ps_model.specs.Sound.{IsSound}
use Rattle.ps_model.specs.Scanning.{pins_under, limit_of}
use Rattle.ps_model.specs.Running.{Interim, done, called_state}
use Rattle.ps_model.specs.Meaning.{diag_in}
use Rattle.ps_model.specs.Blank.{no_diag}
use Rattle.ps_model.specs.declared.report.Diag.{Diag}
use Rattle.ps_model.proofs.Once.{take_next, alone_before}
use Rattle.ps_model.proofs.OneSolution.{one_call, is_call_itself}
use Rattle.ps_model.proofs.Keeping.{go_on}
use Rattle.ps_scan.specs.Instances.{KeptInstance}
use Rattle.ps_scan.specs.Cells.{Cells, signal_at, instance_at, kept_at}
use Rattle.ps_scan.specs.Midway.{is_called, Waits, Midway}

set_reads : {X : Type 0} (xs : List X) (t s : ℕ) (x d : X) → t < length xs → get_or (set xs t x) s d ≡ cond (t == s) x (get_or xs s d)
set_reads xs t s x d h =
    ⊎_elim
    (λ y. ap (λ z. get_or (set xs t x) z d) (sym (eqb-true t s y)) ∙ get_or-set_same xs t x d h ∙ sym (cond-true (t == s) x (get_or xs s d) y))
    (λ n. get_or-set_other xs t s x d (λ e. eqb-false t s n (sym e)) ∙ sym (cond-false (t == s) x (get_or xs s d) n))
    (cases_Bool (t == s))

or_none : (a b : Bool) → (a || (b || false)) ≡ (a || b)
or_none true b = refl
or_none false true = refl
or_none false false = refl

-- one more step calls what it calls
pub called_next : (net : Network) (k i : ℕ) (a : Action) → slice_get net.steps k ≡ Some a → is_called net (k + 1) i ≡ (is_called net k i || is_call_of net i a)
called_next net k i a at =
    let next : k + 1 ≡ suc k = omega arith in
    ap (λ n. list_any (is_call_of net i) (take n net.steps)) next
    ∙ ap (list_any (is_call_of net i)) (take_next net.steps k a at)
    ∙ list_any-append (is_call_of net i) (take k net.steps) (a ∷ [])
    ∙ or_none (list_any (is_call_of net i) (take k net.steps)) (is_call_of net i a)

or_off : (a : Bool) → (a || false) ≡ a
or_off true = refl
or_off false = refl

-- an assignment
pub assigned_on : (net : Network) (t dt now k g : ℕ) (e : Formula) (w : Cells) (ds : List Diag) (m : Interim) →
    slice_get net.steps k ≡ Some (assigns g e) → g < length w.signals → Midway net t dt now k w ds m →
    Midway net t dt now (k + 1) (record w { signals = set w.signals g (value (signal_at w) e) }) ds (done net dt (assigns g e) m)
assigned_on net t dt now k g e w ds m at inside mid =
    let same : (i : ℕ) → is_called net (k + 1) i ≡ is_called net k i = λ i. called_next net k i (assigns g e) at ∙ or_off (is_called net k i) in
    record {
      signals = λ s. set_reads w.signals g s (value (signal_at w) e) false inside
          ∙ ap (λ (v : ℕ → Bool). cond (g == s) (value v e) (v s)) (λ i x. mid.signals x i);
      waiting = λ i h. mid.waiting i (sym (same i) ∙ h);
      called = λ i h. mid.called i (sym (same i) ∙ h);
      reported = λ i h. mid.reported i (sym (same i) ∙ h);
    }

pub ne_off : (i j : ℕ) → i ≢ j → (i == j) ≡ false
ne_off i j other = ⊎_elim (λ y. absurd (other (eqb-true i j y))) (λ n. n) (cases_Bool (i == j))

-- a call
module _ (net : Network) (sound : IsSound net) (t dt now k i : ℕ) (args : List Actual) (w w' : Cells) (ds : List Diag) (d : Diag) (m : Interim)
    (at : slice_get net.steps k ≡ Some (calls i args)) (later : t ≤ now) (mid : Midway net t dt now k w ds m)
    (bits : ℕ → Bool) (bits_are : (j : ℕ) → bits j ≡ pins_under (signal_at w) (kind_at net i) args j)
    (moves : kept_at w' i ≡ stepped_at (kind_at net i) (limit_of (kind_at net i) args) bits now (kept_at w i))
    (others : (j : ℕ) → j ≢ i → instance_at w' j ≡ instance_at w j)
    (values : List Bool) (shown : values ≡ outs (kind_at net i) (kept_at w' i).code (kept_at w' i).mode) (many : length values ≡ output_count (kind_at net i))
    (writes : (s : ℕ) → signal_at w' s ≡ cond (nat_le (first_pin net i) s && nat_lt s (first_pin net i + length values)) (get_or values (s - first_pin net i) false) (signal_at w s))
    (diagnosed : d ≡ diag_in (kept_at w' i).code) where
  waits : Waits t dt now (kept_at w i) (m.blocks i)
  waits = mid.waiting i (alone_before (is_call_of net i) net.steps (one_call net sound i (sound.instances k i args at)) k (calls i args) at (is_call_itself net sound i args))

  pins_are : bits ≡ pins_under m.signals (kind_at net i) args
  pins_are = (λ x j. bits_are j x) ∙ ap (λ (v : ℕ → Bool). pins_under v (kind_at net i) args) (λ x s. mid.signals s x)

  moved_on : StandsBy (Since now) (kept_at w' i) (called_state net dt i args m)
  moved_on =
      subst (λ (z : Kept). StandsBy (Since now) z (called_state net dt i args m)) (sym (moves ∙ ap (λ (v : ℕ → Bool). stepped_at (kind_at net i) (limit_of (kind_at net i) args) v now (kept_at w i)) pins_are))
      (go_on (kind_at net i) (limit_of (kind_at net i) args) (pins_under m.signals (kind_at net i) args) t now dt (kept_at w i) (m.blocks i) later waits.stands waits.passed)

  abbrev pub after : Interim
  after = done net dt (calls i args) m

  here : after.blocks i ≡ called_state net dt i args m
  here = cond-true (i == i) (called_state net dt i args m) (m.blocks i) (eq-eqb i i refl)

  elsewhere : (j : ℕ) → j ≢ i → after.blocks j ≡ m.blocks j
  elsewhere j other = cond-false (i == j) (called_state net dt i args m) (m.blocks j) (ne_off i j (λ e. other (sym e)))

  written_is : (s : ℕ) → signal_at w' s ≡ after.signals s
  written_is s =
      writes s
      ∙ ap (λ n. cond (nat_le (first_pin net i) s && nat_lt s (first_pin net i + n)) (get_or values (s - first_pin net i) false) (signal_at w s)) many
      ∙ ap (λ vs. cond (nat_le (first_pin net i) s && nat_lt s (first_pin net i + output_count (kind_at net i))) (get_or vs (s - first_pin net i) false) (signal_at w s))
      (shown ∙ ap (λ q. outs (kind_at net i) q (kept_at w' i).mode) moved_on.code ∙ ap (λ n. outs (kind_at net i) (called_state net dt i args m).code n) moved_on.mode)
      ∙ ap (λ b. cond (nat_le (first_pin net i) s && nat_lt s (first_pin net i + output_count (kind_at net i)))
      (get_or (outs (kind_at net i) (called_state net dt i args m).code (called_state net dt i args m).mode) (s - first_pin net i) false) b) (mid.signals s)

  stands_here : (j : ℕ) → i ≡ j → StandsBy (Since now) (kept_at w' j) (after.blocks j)
  stands_here j e = subst (λ n. StandsBy (Since now) (kept_at w' n) (after.blocks n)) e (subst (λ (b : Block_state). StandsBy (Since now) (kept_at w' i) b) (sym here) moved_on)

  called_before : (j : ℕ) → i ≢ j → is_called net (k + 1) j ≡ is_called net k j
  called_before j other =
      called_next net k j (calls i args) at
      ∙ ap (λ b. is_called net k j || b) (ne_off i j other)
      ∙ or_off (is_called net k j)

  called_now : (j : ℕ) → i ≡ j → is_called net (k + 1) j ≡ true
  called_now j e = called_next net k j (calls i args) at ∙ or_right (is_called net k j) (i == j) (eq-eqb i j e)

  keeps_elsewhere : (P : Kept → Block_state → Type 0) (j : ℕ) → i ≢ j → P (kept_at w j) (m.blocks j) → P (kept_at w' j) (after.blocks j)
  keeps_elsewhere P j other p =
      subst (λ (z : Kept). P z (after.blocks j)) (sym (ap (λ (h : KeptInstance). h.kept) (others j (λ e. other (sym e)))))
      (subst (λ (b : Block_state). P (kept_at w j) b) (sym (elsewhere j (λ e. other (sym e)))) p)

  diag_here : (j : ℕ) → i ≡ j → i < length ds → get_or (set ds i d) j no_diag ≡ diag_in (after.blocks j).code
  diag_here j e inside =
      ap (λ n. get_or (set ds i d) n no_diag) (sym e) ∙ get_or-set_same ds i d no_diag inside ∙ diagnosed
      ∙ ap diag_in (moved_on.code ∙ ap (λ (b : Block_state). b.code) (sym here)) ∙ ap (λ n. diag_in (after.blocks n).code) e

  same_or_not : (j : ℕ) → (i ≡ j) ⊎ (i ≢ j)
  same_or_not j = ⊎_elim (λ y. inl (eqb-true i j y)) (λ n. inr (λ e. true≢false (sym (eq-eqb i j e) ∙ n))) (cases_Bool (i == j))

  pub called_on : i < length ds → Midway net t dt now (k + 1) w' (set ds i d) after
  called_on inside = record {
    signals = written_is;
    waiting = λ j h. ⊎_elim (λ e. absurd (true≢false (sym (called_now j e) ∙ h)))
        (λ other. keeps_elsewhere (λ kept b. Waits t dt now kept b) j other (mid.waiting j (sym (called_before j other) ∙ h))) (same_or_not j);
    called = λ j h. ⊎_elim (stands_here j)
        (λ other. keeps_elsewhere (StandsBy (Since now)) j other (mid.called j (sym (called_before j other) ∙ h))) (same_or_not j);
    reported = λ j h within. ⊎_elim (λ e. diag_here j e inside)
        (λ other. get_or-set_other ds i j d no_diag (λ e. other (sym e))
        ∙ mid.reported j (sym (called_before j other) ∙ h) (omega (arith, within, length-set ds i d))
        ∙ ap (λ (b : Block_state). diag_in b.code) (sym (elsewhere j (λ e. other (sym e))))) (same_or_not j);
  }
