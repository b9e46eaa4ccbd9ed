use Rattle.std.proofs.Common.{◌≡◌, ◌++◌, drop, map}
use Rattle.std.specs.List.{flat_map}
use Rattle.ps_cover.specs.Covering.{point_of}
use Rattle.ps_cover.specs.Listing.{pin_points}
use Rattle.ps_cover.proofs.listing.push_args.Given as goal

-- what was listed, and what is listed of the arguments that are left
abbrev pub invariant-loop-j : goal.invariant-loop-j
invariant-loop-j l =
    map point_of l.points.items ++ flat_map (pin_points l.step) (drop l.j l.args)
    ≡ map point_of l.fn.points.items ++ flat_map (pin_points l.step) l.args
