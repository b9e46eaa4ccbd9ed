use Rattle.std.proofs.Common.{◌≡◌, take, map}
use Rattle.ps_scan.specs.Instances.{instance_of}
use Rattle.ps_scan.specs.Cells.{first_instances}
use Rattle.ps_scan.proofs.scanner.fresh_instances.Given as goal

abbrev pub invariant-loop-i : goal.invariant-loop-i
invariant-loop-i l = map instance_of l.instances.items ≡ first_instances (take l.i l.app.instances)
