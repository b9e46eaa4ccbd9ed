use Rattle.std.proofs.Common.{◌≡◌, ◌<◌, ℕ, Some, take, length, slice_get}
use Rattle.ps_names.specs.declared.entry.Entry.{Entry}
use Rattle.ps_names.specs.Limits.{inputs, outputs, locals, instances}
use Rattle.ps_names.specs.Stands.{outputs_before}
use Rattle.ps_resolve.specs.Numbering.{numbers_at}
use Rattle.ps_resolve.proofs.numbers.numbers.Given as goal

abbrev pub invariant-loop-i : goal.invariant-loop-i
invariant-loop-i l = record {
  inputs : l.before.inputs ≡ inputs (take l.i l.entries);
  outputs : l.before.outputs ≡ outputs (take l.i l.entries);
  locals : l.before.locals ≡ locals (take l.i l.entries);
  instances : l.before.instances ≡ instances (take l.i l.entries);
  first : l.first ≡ outputs_before l.entries l.i;
  long : length l.numbers.items ≡ l.i;
  each : (k : ℕ) (e : Entry) → k < l.i → slice_get l.entries k ≡ Some e → slice_get l.numbers.items k ≡ Some (numbers_at l.entries k e.sort);
}
