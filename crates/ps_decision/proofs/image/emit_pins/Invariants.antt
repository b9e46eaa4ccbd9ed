use Rattle.std.proofs.Common.{◌≡◌, ◌+◌, ◌*◌, ◌≤◌, ◌++◌, length, take}
use Rattle.std.specs.Prelude.{sum_by}
use Rattle.std.specs.List.{range_with_len}
use Rattle.ps_decision.specs.Budget.{count_at_pin}
use Rattle.ps_decision.specs.Code.{rows_at_pin, in_order}
use Rattle.ps_decision.specs.Rows.{bytes_of}
use Rattle.ps_decision.proofs.image.emit_pins.Given as goal

abbrev pub invariant-loop-j : goal.invariant-loop-j
invariant-loop-j l = record {
  written : l.code.items ≡ l.initial.code.items ++ bytes_of (in_order (rows_at_pin l.kind l.args) (range_with_len 0 l.j) (length l.initial.code.items));
  few : length l.code.items ≤ length l.initial.code.items + 11 * sum_by count_at_pin (take l.j l.args);
}
