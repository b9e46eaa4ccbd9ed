use Rattle.std.proofs.Common.{◌≡◌, map, take}
use Rattle.ps_bench_watch.specs.Wires.{wire_of_part}
use Rattle.ps_bench_watch.proofs.wires.wires_of.Given as goal

abbrev pub invariant-loop-part : goal.invariant-loop-part
invariant-loop-part l = l.wires.items ≡ map (wire_of_part l.app) (take l.part-index l.parts)
