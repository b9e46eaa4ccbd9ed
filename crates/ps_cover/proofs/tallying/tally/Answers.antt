use Rattle.std.proofs.Common.{◌≡◌, ◌+◌, ◌∙◌, ℕ, Bool, Some, ap, refl, slice_get, sym, arith}
use Rattle.std.specs.Prelude.{if◌then◌else◌}
use Rattle.std.proofs.lemmas.Option.{slice_get_read}
use Rattle.ps_cover.specs.Covering.{point_of}
use Rattle.ps_cover.specs.Tallying.{counts, counts_at, shown_at}
use Rattle.ps_cover.proofs.Counting.{at_most_one, count_more}
use Rattle.ps_cover.proofs.tallying.tally.Goals as goal

pub loop-n-preserved : goal.loop-n-preserved
loop-n-preserved c =
    let a = c.args in
    let points = c.as_slice-points.result.now in
    let point = c.index-points-n.result in
    let n = c.loop-n.n in
    let f : ℕ → Bool = λ m. counts_at a.app.now a.exclusions.now.rows.items a.sort a.step a.status (shown_at a.cover.now m) (slice_get points m) in
    let at : slice_get points n ≡ Some point = slice_get_read points _ n point refl c.loop-n-test.true c.index-points-n.is in
    let is : c.counts.result ≡ f n =
    c.counts.ensures ∙ ap (counts a.app.now a.exclusions.now.rows.items a.sort a.step a.status (point_of point)) c.is_shown_at-shown.ensures
    ∙ ap (counts_at a.app.now a.exclusions.now.rows.items a.sort a.step a.status (shown_at a.cover.now n)) (sym at) in
    let one : c.one_if-count.result ≡ (if f n then 1 else 0) = c.one_if-count.ensures ∙ ap (λ b. if b then 1 else 0) is in
    record {
      is = (λ i. c.loop-n.invariant.is i + one i) ∙ sym (count_more f n);
      low = omega (arith, c.loop-n.invariant.low, c.one_if-count.ensures, at_most_one c.counts.result);
    }
