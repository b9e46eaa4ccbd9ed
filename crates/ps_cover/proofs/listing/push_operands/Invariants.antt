use Rattle.std.proofs.Common.{◌≡◌, ◌++◌, map}
use Rattle.std.specs.List.{flat_map, range_with_len}
use Rattle.ps_cover.specs.Covering.{point_of}
use Rattle.ps_model.specs.Exprs.{formula}
use Rattle.ps_cover.specs.Listing.{place_points}
use Rattle.ps_cover.proofs.listing.push_operands.Given as goal

abbrev pub invariant-loop-place : goal.invariant-loop-place
invariant-loop-place l =
    map point_of l.points.items ≡ map point_of l.fn.points.items ++ flat_map (place_points l.step l.of_and (map formula l.operands.items.items)) (range_with_len 0 l.place)
