use Rattle.std.proofs.Common.{◌≡◌, true}
use Rattle.std.specs.List.{list_all, range_with_len}
use Rattle.ps_cover.specs.Covering.{leaves_in}
use Rattle.ps_cover.proofs.point.others_leave.Given as goal

abbrev pub invariant-loop-j : goal.invariant-loop-j
invariant-loop-j l = list_all (leaves_in l.app l.signals l.decision) (range_with_len 0 l.j) ≡ true
