use Rattle.std.proofs.Common.{◌≡◌, ◌++◌, map}
use Rattle.std.specs.List.{flat_map, range_with_len}
use Rattle.ps_cover.specs.Covering.{point_of}
use Rattle.std.specs.Prelude.{slice_get}
use Rattle.ps_cover.specs.Listing.{step_points}
use Rattle.ps_cover.proofs.listing.push_steps.Given as goal

abbrev pub invariant-loop-k : goal.invariant-loop-k
invariant-loop-k l =
    map point_of l.points.items ≡ map point_of l.fn.points.items ++ flat_map (λ k. step_points l.app k (slice_get l.app.steps k)) (range_with_len 0 l.k)
