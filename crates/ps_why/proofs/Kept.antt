-- What is kept of the instances, one after another.
use Rattle.std.proofs.Common.{◌≡◌, ◌≢◌, ℕ, zero, suc, ◌+◌, ◌<◌, ◌≤◌, ◌⊎◌, inl, inr, List, [], ◌∷◌, length, set, refl, sym, ap, subst, ◌∙◌, arith, false}
use Rattle.std.specs.Prelude.{Some, slice_get, slice_index_or}
use Rattle.std.proofs.lemmas.Bool.{cases_lt}
use Rattle.std.proofs.lemmas.List.{length-set}
use Rattle.std.proofs.lemmas.Option.{same_Some, slice_get-get_or, slice_get_within}
use Rattle.ps_model.specs.Action.{Actual, calls}
use Rattle.ps_model.specs.Kept.{Remains, StandsBy}
use Rattle.ps_model.specs.Network.{Network, kind_at}
use Rattle.ps_model.specs.Scanning.{block_in, limit_of}
use Rattle.ps_machine.specs.declared.signals.Signals.{Signals}
use Rattle.ps_rows.specs.Counted.{kept_of}
use Rattle.ps_why.specs.Keeping.{AllStep, AreKept, IsKeptFor, StepsSo}
use Rattle.ps_why.specs.Scenes.{IsCallOf}
use Rattle.ps_why.specs.declared.keeping.Stepped.{Stepped}
use Rattle.ps_why.proofs.Seeing.{no_call}

set_same : {X : Type 0} (xs : List X) (i : ℕ) (x : X) → i < length xs → slice_get (set xs i x) i ≡ Some x
set_same [] i x within = absurd (omega arith)
set_same (y ∷ xs) zero x within = refl
set_same (y ∷ xs) (suc i) x within = set_same xs i x (omega arith)

set_other : {X : Type 0} (xs : List X) (i j : ℕ) (x : X) → j ≢ i → slice_get (set xs i x) j ≡ slice_get xs j
set_other [] i j x other = refl
set_other (y ∷ xs) zero zero x other = absurd (other refl)
set_other (y ∷ xs) zero (suc j) x other = refl
set_other (y ∷ xs) (suc i) zero x other = refl
set_other (y ∷ xs) (suc i) (suc j) x other = set_other xs i j x (λ e. other (ap suc e))

-- what stands past what is kept
abbrev pub none_kept : Stepped
none_kept = record { call = no_call; block = record { code = 0; last_reset = false; last_auxiliary = false; mode = 0; remains = 0 } }

-- the first n instances have stepped
pub record HaveStepped (net : Network) (passed : ℕ) (x : Signals) (was is : List Stepped) (n : ℕ) : Type 0 where
  pub kept : AreKept net is
  pub done : (j : ℕ) (s' : Stepped) → j < n → slice_get is j ≡ Some s' → (s : Stepped) × (slice_get was j ≡ Some s) × StepsSo net j s.block passed x s'
  pub left : (j : ℕ) → n ≤ j → slice_get is j ≡ slice_get was j

module _ (net : Network) (passed : ℕ) (x : Signals) (was : List Stepped) (are : AreKept net was) where
  pub none_stepped : HaveStepped net passed x was was 0
  none_stepped = record { kept = are; done = λ j s below at. absurd (omega (arith, below)); left = λ j past. refl }

  module _ (is : List Stepped) (n : ℕ) (h : HaveStepped net passed x was is n) (within : n < length is) where
    -- the one that steps next
    abbrev pub here : Stepped
    here = slice_index_or is n none_kept

    pub here_at : slice_get is n ≡ Some here
    here_at = slice_get-get_or is n none_kept within

    pub here_kept : IsKeptFor net n here
    here_kept = h.kept.are n here here_at

    pub next_stepped : (s' : Stepped) → IsKeptFor net n s' → StepsSo net n here.block passed x s' → HaveStepped net passed x was (set is n s') (n + 1)
    next_stepped s' kept so = record {
      kept = record {
        each = length-set is n s' ∙ h.kept.each;
        are = λ j s at. kept_by j s at (cases_lt j n) (cases_lt n j);
      };
      done = λ j s below at. done_by j s at (cases_lt j n) (λ past. omega (arith, below, past));
      left = λ j past. set_other is n j s' (λ e. omega (arith, e, past)) ∙ h.left j (omega (arith, past));
    }
      where
        at_n : (j : ℕ) (s : Stepped) → n ≡ j → slice_get (set is n s') j ≡ Some s → s' ≡ s
        at_n j s e at = same_Some s' s (sym (set_same is n s' within) ∙ ap (slice_get (set is n s')) e ∙ at)

        kept_by : (j : ℕ) (s : Stepped) → slice_get (set is n s') j ≡ Some s → (j < n) ⊎ (n ≤ j) → (n < j) ⊎ (j ≤ n) → IsKeptFor net j s
        kept_by j s at (inl p) q = h.kept.are j s (sym (set_other is n j s' (λ e. omega (arith, e, p))) ∙ at)
        kept_by j s at (inr p) (inl q) = h.kept.are j s (sym (set_other is n j s' (λ e. omega (arith, e, q))) ∙ at)
        kept_by j s at (inr p) (inr q) =
            let e : n ≡ j = omega (arith, p, q) in
            subst (λ (t : Stepped). IsKeptFor net j t) (at_n j s e at) (subst (λ m. IsKeptFor net m s') e kept)

        done_by : (j : ℕ) (s : Stepped) → slice_get (set is n s') j ≡ Some s → (j < n) ⊎ (n ≤ j) → (n ≤ j → j ≤ n) →
            (t : Stepped) × (slice_get was j ≡ Some t) × StepsSo net j t.block passed x s
        done_by j s at (inl p) low = h.done j s p (sym (set_other is n j s' (λ e. omega (arith, e, p))) ∙ at)
        done_by j s at (inr p) low =
            let e : n ≡ j = omega (arith, p, low p) in
            subst (λ m. (t : Stepped) × (slice_get was m ≡ Some t) × StepsSo net m t.block passed x s) e
            (here, sym (h.left n (omega arith)) ∙ here_at, subst (λ (t : Stepped). StepsSo net n here.block passed x t) (at_n j s e at) so)

  pub all_step : (is : List Stepped) (n : ℕ) → HaveStepped net passed x was is n → length is ≤ n → AllStep net passed x was is
  all_step is n h end old ins since new solves before behind stands time =
      (λ i s at args call. (step i s at args call).1, λ i s at. (step i s at (h.kept.are i s at).call.args (h.kept.are i s at).call.stands).0)
    where
      step : (i : ℕ) (s : Stepped) → slice_get is i ≡ Some s → (args : List Actual) → slice_get net.steps s.call.step ≡ Some (calls i args) →
          IsCallOf net old since new i s.call × StandsBy (Remains (limit_of (kind_at net i) args)) (kept_of s.block) (block_in new i)
      step i s at args call =
          let d = h.done i s (omega (arith, slice_get_within is i s at, end)) at in
          let same : d.0.call.step ≡ s.call.step = same_Some d.0.call.step s.call.step (sym (are.are i d.0 d.1).step ∙ (h.kept.are i s at).step) in
          d.2 old ins since new solves before behind args call
          (stands i d.0 d.1 args (ap (slice_get net.steps) same ∙ call)) (time i)
