use Rattle.std.proofs.Common.{◌≡◌, ◌≤◌}
use Rattle.std.specs.Prelude.{count_by, slice_get}
use Rattle.std.specs.List.{range_with_len}
use Rattle.ps_cover.specs.Tallying.{counts_at, shown_at}
use Rattle.ps_cover.proofs.tallying.tally.Given as goal

abbrev pub invariant-loop-n : goal.invariant-loop-n
invariant-loop-n l = record {
  is : l.count ≡ count_by (λ n. counts_at l.fn.app l.fn.exclusions.rows.items l.fn.sort l.fn.step l.fn.status (shown_at l.fn.cover n) (slice_get l.points n)) (range_with_len 0 l.n);
  low : l.count ≤ l.n;
}
