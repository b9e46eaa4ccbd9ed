use Rattle.std.proofs.Common.{◌≡◌, ◌+◌, ◌≤◌, ◌++◌, take, drop, length}
use Rattle.std.specs.Prelude.{false}
use Rattle.std.specs.List.{flat_map}
use Rattle.ps_report.specs.Lines.{named_value, outputs_room}
use Rattle.ps_report.proofs.buffer.put_false_outputs.Given as goal

abbrev pub invariant-loop-j : goal.invariant-loop-j
invariant-loop-j l = record {
  bytes : take l.end l.line ++ flat_map (λ o. named_value o.name false) (drop l.j l.app.outputs)
      ≡ take l.at l.initial.line ++ flat_map (λ o. named_value o.name false) l.app.outputs;
  end : l.end + outputs_room (drop l.j l.app.outputs) ≤ l.at + outputs_room l.app.outputs;
  len : length l.line ≡ length l.initial.line;
}
