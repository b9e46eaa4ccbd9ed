use Rattle.std.proofs.Common.{◌≡◌, ◌++◌, map}
use Rattle.std.specs.List.{flat_map, range_with_len}
use Rattle.ps_cover.specs.Covering.{point_of}
use Rattle.ps_cover.specs.Listing.{value_points}
use Rattle.ps_cover.proofs.listing.push_values.Given as goal

abbrev pub invariant-loop-signal : goal.invariant-loop-signal
invariant-loop-signal l =
    map point_of l.points.items ≡ map point_of l.fn.points.items ++ flat_map (value_points) (range_with_len 0 l.signal)
