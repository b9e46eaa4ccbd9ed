use Rattle.std.proofs.Common.{◌≡◌, ◌+◌, ◌≤◌, ◌++◌, take, drop, length}
use Rattle.ps_report.specs.Lines.{instance_texts, instances_room}
use Rattle.ps_report.proofs.buffer.put_instances.Given as goal

abbrev pub invariant-loop-i : goal.invariant-loop-i
invariant-loop-i l = record {
  bytes : take l.end l.line ++ instance_texts (drop l.i l.app.instances) (drop l.i l.diags) ≡ take l.at l.initial.line ++ instance_texts l.app.instances l.diags;
  end : l.end + instances_room (drop l.i l.app.instances) ≤ l.at + instances_room l.app.instances;
  len : length l.line ≡ length l.initial.line;
}
