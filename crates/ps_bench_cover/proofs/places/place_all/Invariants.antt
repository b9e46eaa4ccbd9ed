use Rattle.std.proofs.Common.{◌≡◌, ◌++◌, map, drop}
use Rattle.ps_cover.specs.Covering.{point_of}
use Rattle.ps_bench_cover.specs.Standing.{placed}
use Rattle.ps_bench_cover.proofs.places.place_all.Given as goal

abbrev pub invariant-loop-point : goal.invariant-loop-point
invariant-loop-point l =
    l.places.items ++ placed (map point_of (drop l.point-index l.points)) (drop l.next l.found) ≡ placed (map point_of l.points) l.found
