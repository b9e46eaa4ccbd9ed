use Rattle.std.proofs.Common.{◌≡◌, ◌++◌, map}
use Rattle.std.specs.List.{flat_map, range_with_len}
use Rattle.ps_cover.specs.Covering.{point_of}
use Rattle.ps_cover.specs.Listing.{mark_points}
use Rattle.ps_cover.proofs.listing.push_marks.Given as goal

abbrev pub invariant-loop-mark : goal.invariant-loop-mark
invariant-loop-mark l =
    map point_of l.points.items ≡ map point_of l.fn.points.items ++ flat_map (mark_points l.step l.kind) (range_with_len 0 l.mark)
