use Rattle.std.proofs.Common.{◌≡◌, take}
use Rattle.ps_names.specs.Limits.{inputs, outputs, locals, instances}
use Rattle.ps_resolve.proofs.limits.count.Given as goal

abbrev pub invariant-loop-i : goal.invariant-loop-i
invariant-loop-i l = record {
  inputs : l.counts.inputs ≡ inputs (take l.i l.entries);
  outputs : l.counts.outputs ≡ outputs (take l.i l.entries);
  locals : l.counts.locals ≡ locals (take l.i l.entries);
  instances : l.counts.instances ≡ instances (take l.i l.entries);
}
