-- The calls of an application, one after another.
use Rattle.std.proofs.Common.{◌≡◌, ℕ, ◌<◌, ◌≤◌, ◌⊎◌, inl, inr, false, List, length, set, slice_get, Option, Some, None, map, refl, sym, ap, subst, ◌∙◌, arith}
use Rattle.std.specs.Prelude.{option_map, slice_index_or}
use Rattle.std.proofs.lemmas.Bool.{cases_lt}
use Rattle.std.proofs.lemmas.List.{length-set}
use Rattle.std.proofs.lemmas.List.FromFn.{get_or-map-range_with_len, length-map-range_with_len}
use Rattle.std.specs.List.{range_with_len}
use Rattle.std.proofs.lemmas.Option.{get_or_from_slice_get, same_Some, slice_get-get_or, slice_get_within}
use Rattle.ps_model.specs.Action.{Action, assigns, calls}
use Rattle.ps_model.specs.Network.{Network, kind_at}
use Rattle.ps_rows.proofs.Stepping.{fresh_kept}
use Rattle.ps_cover.specs.Covers.{idle_call, idle_step}
use Rattle.ps_cover.specs.Covering.{AreCalls, IsCallKept}
use Rattle.ps_cover.specs.declared.block.Called.{Called}
use Rattle.ps_cover.proofs.Listed.{set_other, set_same}

-- what stands past the calls
abbrev pub no_call : Called
no_call = record { step = 0; moved = record { from = 0; number = 0; block = record { code = 0; last_reset = false; last_auxiliary = false; mode = 0; remains = 0 } } }

module _ (net : Network) (cs : List Called) (are : AreCalls net cs) where
  -- the call at a place has its number, and a block that its kind can keep
  pub kept_at : (k : ℕ) (d : Called) → k < length cs →
      ((slice_index_or cs k d).step ≡ k) × IsCallKept net (slice_get net.steps (slice_index_or cs k d).step) (slice_index_or cs k d)
  kept_at k d within =
      let h = are.kept k (slice_index_or cs k d) (slice_get-get_or cs k d within) in
      (h.0, subst (λ n. IsCallKept net (slice_get net.steps n) (slice_index_or cs k d)) (sym h.0) h.1)

  -- so it is after a step of one of them
  pub still_calls : (k : ℕ) (c : Called) → k < length cs → c.step ≡ k → IsCallKept net (slice_get net.steps k) c → AreCalls net (set cs k c)
  still_calls k c within same kept = record {
    each = length-set cs k c ∙ are.each;
    kept = λ j d at. by j d at (cases_lt j k) (cases_lt k j);
  }
    where
      other : (j : ℕ) (d : Called) → slice_get (set cs k c) j ≡ Some d → (j ≡ k → ⊥) → (d.step ≡ j) × IsCallKept net (slice_get net.steps j) d
      other j d at differs = are.kept j d (sym (set_other cs k j c differs) ∙ at)

      moved_to : (d : Called) → c ≡ d → (j : ℕ) → k ≡ j → IsCallKept net (slice_get net.steps j) d
      moved_to d is j e =
          subst (λ (x : Called). IsCallKept net (slice_get net.steps j) x) is (subst (λ n. IsCallKept net (slice_get net.steps n) c) e kept)

      by : (j : ℕ) (d : Called) → slice_get (set cs k c) j ≡ Some d → (j < k) ⊎ (k ≤ j) → (k < j) ⊎ (j ≤ k) → (d.step ≡ j) × IsCallKept net (slice_get net.steps j) d
      by j d at (inl p) q = other j d at (λ e. omega (arith, e, p))
      by j d at (inr p) (inl q) = other j d at (λ e. omega (arith, e, q))
      by j d at (inr p) (inr q) =
          let e : k ≡ j = omega arith in
          let is : c ≡ d = same_Some c d (sym (set_same cs k c within) ∙ ap (slice_get (set cs k c)) e ∙ at) in
          (sym (ap (λ (x : Called). x.step) is) ∙ same ∙ e, moved_to d is j e)

idle_kept : (net : Network) (a : Option Action) (c : Called) → IsCallKept net a (idle_call c)
idle_kept net (Some (calls i args)) c = fresh_kept (kind_at net i)
idle_kept net (Some (assigns t e)) c = tt
idle_kept net None c = tt

-- the calls before the first scan
pub idle_calls : (net : Network) (cs cs' : List Called) → AreCalls net cs → length cs' ≡ length cs →
    ((k : ℕ) → slice_get cs' k ≡ option_map idle_call (slice_get cs k)) → AreCalls net cs'
idle_calls net cs cs' are long is = record {
  each = long ∙ are.each;
  kept = λ k c at. by k c (slice_get cs k) refl (sym (is k) ∙ at);
}
  where
    by : (k : ℕ) (c : Called) (d : Option Called) → slice_get cs k ≡ d → option_map idle_call (slice_get cs k) ≡ Some c →
        (c.step ≡ k) × IsCallKept net (slice_get net.steps k) c
    by k c None at e = absurd (let e' : None ≡ Some c = sym (ap (option_map idle_call) at) ∙ e in cc)
    by k c (Some d) at e =
        let same : idle_call d ≡ c = same_Some (idle_call d) c (sym (ap (option_map idle_call) at) ∙ e) in
        (sym (ap (λ (x : Called). x.step) same) ∙ (are.kept k d at).0, subst (λ (x : Called). IsCallKept net (slice_get net.steps k) x) same (idle_kept net (slice_get net.steps k) d))

-- what stands among the steps before the first scan
pub idle_at : (n k : ℕ) (c : Called) → slice_get (map idle_step (range_with_len 0 n)) k ≡ Some c → c ≡ idle_step k
idle_at n k c at =
    let within : k < n = omega (arith, slice_get_within _ k c at, length-map-range_with_len idle_step 0 n) in
    sym (get_or_from_slice_get _ k c c at) ∙ get_or-map-range_with_len idle_step 0 n k k c within (omega arith)

-- these are the calls of an application
pub first_are : (net : Network) → AreCalls net (map idle_step (range_with_len 0 (length net.steps)))
first_are net = record {
  each = length-map-range_with_len idle_step 0 (length net.steps);
  kept = λ k c at.
      let is = idle_at (length net.steps) k c at in
      (ap (λ (x : Called). x.step) is, subst (λ (x : Called). IsCallKept net (slice_get net.steps k) x) (sym is) (idle_kept net (slice_get net.steps k) (idle_step k)));
}
