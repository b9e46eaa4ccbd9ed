use Rattle.std.proofs.Common.{◌≡◌, ◌+◌, ◌<◌, ◌≤◌, ◌⊎◌, inl, inr, ℕ, Bool, List, false, length, set, subst, ◌∙◌, arith}
use Rattle.std.specs.Prelude.{slice_index_or}
use Rattle.std.proofs.lemmas.Bool.{cases_lt}
use Rattle.std.proofs.lemmas.List.{length-set, get_or-set_same, get_or-set_other}
use Rattle.ps_ways.specs.Marks.{made}
use Rattle.ps_cover.proofs.marks.mark_taken.Goals as goal

-- what was so of the marks before one, and is of this one, is so of those before the next
one_more : (met : List Bool) (is : ℕ → Bool) (k : ℕ) (b : Bool) → k < length met → ((m : ℕ) → m < k → slice_index_or met m false ≡ is m) → b ≡ is k →
    (m : ℕ) → m < k + 1 → slice_index_or (set met k b) m false ≡ is m
one_more met is k b within before here m p = by (cases_lt m k)
  where
    by : (m < k) ⊎ (k ≤ m) → slice_index_or (set met k b) m false ≡ is m
    by (inl q) = get_or-set_other met k m b false (λ e. omega (arith, e)) ∙ before m q
    by (inr q) =
        let e : k ≡ m = omega arith in
        subst (λ n. slice_index_or (set met k b) n false ≡ is n) e (get_or-set_same met k b false within ∙ here)

pub loop-mark-preserved : goal.loop-mark-preserved
loop-mark-preserved c = record {
  each = length-set c.loop-mark.met c.loop-mark.mark c.makes.result ∙ c.loop-mark.invariant.each;
  marks = λ c' number to.
      one_more c.loop-mark.met _ c.loop-mark.mark c.makes.result (omega (arith, c.loop-mark-test.true, c.loop-mark.invariant.each))
      (c.loop-mark.invariant.marks c' number to)
      (c.makes.ensures ∙ (λ i. made c.args.taken.now.kind c.args.taken.now.from (number i) (to i) c.loop-mark.mark));
}
