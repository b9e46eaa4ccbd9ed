use Rattle.std.proofs.Common.{◌≡◌, ◌+◌, ◌≤◌, ◌++◌, take, drop, length}
use Rattle.ps_report.specs.Lines.{output_texts, outputs_room}
use Rattle.ps_report.proofs.buffer.put_outputs.Given as goal

abbrev pub invariant-loop-j : goal.invariant-loop-j
invariant-loop-j l = record {
  bytes : take l.end l.line ++ output_texts (drop l.j l.app.outputs) (drop l.j l.outs) ≡ take l.at l.initial.line ++ output_texts l.app.outputs l.outs;
  end : l.end + outputs_room (drop l.j l.app.outputs) ≤ l.at + outputs_room l.app.outputs;
  len : length l.line ≡ length l.initial.line;
}
