-- One trial more is counted.
use Rattle.std.proofs.Common.{◌≡◌, ◌∙◌, ◌+◌, ℕ, zero, suc, List, [], ◌∷◌, ◌++◌, map, refl, sym, ap, arith}
use Rattle.std.specs.List.{range_with_len}
use Rattle.std.proofs.lemmas.List.{map-append}
use Rattle.ps_bench_trials.specs.Tallies.{Result_of, all_counted, counted, none_counted}
use Rattle.ps_bench_trials.specs.declared.line.Line.{Line}

range_more : (a n : ℕ) → range_with_len a (suc n) ≡ range_with_len a n ++ (a + n) ∷ []
range_more a zero = ap (λ m. m ∷ []) (let e : a ≡ a + 0 = omega arith in e)
range_more a (suc n) = ap (λ ms. a ∷ ms) (range_more (a + 1) n ∙ ap (λ m. range_with_len (a + 1) n ++ m ∷ []) (let e : a + 1 + n ≡ a + suc n = omega arith in e))

counted_more : (lines : List Line) (rs : List Result_of) (r : Result_of) →
    all_counted lines (rs ++ r ∷ []) ≡ counted (all_counted lines rs) r.channel r.region r.outcome
counted_more lines [] r = refl
counted_more lines (q ∷ rs) r = counted_more (counted lines q.channel q.region q.outcome) rs r

-- the trials from one on, with one more
pub one_more : (f : ℕ → Result_of) (from done : ℕ) (lines : List Line) → lines ≡ all_counted none_counted (map f (range_with_len from done)) →
    counted lines (f (from + done)).channel (f (from + done)).region (f (from + done)).outcome
    ≡ all_counted none_counted (map f (range_with_len from (done + 1)))
one_more f from done lines so =
    let next : suc done ≡ done + 1 = omega arith in
    let r = f (from + done) in
    ap (λ ls. counted ls r.channel r.region r.outcome) so
    ∙ sym (counted_more none_counted (map f (range_with_len from done)) r)
    ∙ sym (ap (all_counted none_counted) (map-append f (range_with_len from done) ((from + done) ∷ [])))
    ∙ sym (ap (λ ns. all_counted none_counted (map f ns)) (range_more from done))
    ∙ ap (λ n. all_counted none_counted (map f (range_with_len from n))) next
