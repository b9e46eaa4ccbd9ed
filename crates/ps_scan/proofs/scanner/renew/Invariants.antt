use Rattle.std.proofs.Common.{◌≡◌, take, map, length}
use Rattle.ps_scan.specs.Instances.{instance_of}
use Rattle.ps_scan.specs.Cells.{first_instances}
use Rattle.ps_scan.proofs.scanner.renew.Given as goal

abbrev pub invariant-loop-i : goal.invariant-loop-i
invariant-loop-i l = record {
  first : map instance_of (take l.i l.instances) ≡ first_instances (take l.i l.app.instances);
  len : length l.instances ≡ length l.initial.instances;
}
