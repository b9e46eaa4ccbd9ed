-- Since when the instances are in their states, one after another.
use Rattle.std.proofs.Common.{◌≡◌, ◌∙◌, ◌⊎◌, ◌<◌, ◌≤◌, ◌+◌, ℕ, Bool, List, Some, length, set, inl, inr, refl, sym, ap, subst, arith}
use Rattle.std.specs.Prelude.{slice_get}
use Rattle.std.proofs.lemmas.Bool.{cases_lt}
use Rattle.std.proofs.lemmas.List.{length-set}
use Rattle.std.proofs.lemmas.Option.{same_Some, slice_get_within}
use Rattle.ps_cover.proofs.Listed.{set_other, set_same}
use Rattle.ps_why.specs.declared.keeping.Stepped.{Stepped}
use Rattle.ps_bench_why.specs.Walking.{noted}
use Rattle.ps_bench_why.specs.declared.walker.Since.{Since}

-- of the first n instances it is noted
pub record HaveNoted (kept : List Stepped) (now : ℕ) (first : Bool) (was is : List Since) (n : ℕ) : Type 0 where
  pub len : length is ≡ length was
  pub done : (j : ℕ) (seen : Stepped) (s : Since) → j < n → slice_get kept j ≡ Some seen → slice_get was j ≡ Some s →
      slice_get is j ≡ Some (noted seen.call now first s)
  pub left : (j : ℕ) → n ≤ j → slice_get is j ≡ slice_get was j

module _ (kept : List Stepped) (now : ℕ) (first : Bool) (was : List Since) where
  pub none_noted : HaveNoted kept now first was was 0
  none_noted = record { len = refl; done = λ j seen s below at was. absurd (omega (arith, below)); left = λ j past. refl }

  -- one more
  pub note_next : (is : List Since) (n : ℕ) → HaveNoted kept now first was is n → n < length is → (seen : Stepped) → slice_get kept n ≡ Some seen →
      (s : Since) → slice_get is n ≡ Some s → HaveNoted kept now first was (set is n (noted seen.call now first s)) (n + 1)
  note_next is n h within seen seen_at s at = record {
    len = length-set is n (noted seen.call now first s) ∙ h.len;
    done = λ j seen' s' below seen_j at_j. by j seen' s' below seen_j at_j (cases_lt j n);
    left = λ j past. set_other is n j (noted seen.call now first s) (λ e. omega (arith, e, past)) ∙ h.left j (omega (arith, past));
  }
    where
      by : (j : ℕ) (seen' : Stepped) (s' : Since) → j < n + 1 → slice_get kept j ≡ Some seen' → slice_get was j ≡ Some s' → (j < n) ⊎ (n ≤ j) →
          slice_get (set is n (noted seen.call now first s)) j ≡ Some (noted seen'.call now first s')
      by j seen' s' below seen_j at_j (inl p) =
          set_other is n j (noted seen.call now first s) (λ e. omega (arith, e, p)) ∙ h.done j seen' s' p seen_j at_j
      by j seen' s' below seen_j at_j (inr p) =
          let e : n ≡ j = omega (arith, p, below) in
          let same_seen : seen ≡ seen' = same_Some seen seen' (sym seen_at ∙ ap (slice_get kept) e ∙ seen_j) in
          let same_s : s ≡ s' = same_Some s s' (sym at ∙ h.left n (omega arith) ∙ ap (slice_get was) e ∙ at_j) in
          subst (λ m. slice_get (set is n (noted seen.call now first s)) m ≡ Some (noted seen'.call now first s')) e
          (set_same is n (noted seen.call now first s) within ∙ (λ i. Some (noted (same_seen i).call now first (same_s i))))

  -- all
  pub all_noted : (is : List Since) (n : ℕ) → HaveNoted kept now first was is n → length was ≤ n → (i : ℕ) (seen : Stepped) (s : Since) →
      slice_get kept i ≡ Some seen → slice_get was i ≡ Some s → slice_get is i ≡ Some (noted seen.call now first s)
  all_noted is n h end i seen s seen_at at = h.done i seen s (omega (arith, slice_get_within was i s at, end)) seen_at at
