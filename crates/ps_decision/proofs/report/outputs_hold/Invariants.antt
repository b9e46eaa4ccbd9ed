use Rattle.std.proofs.Common.{◌≡◌, ◌-◌, ◌≤◌, true}
use Rattle.std.specs.Prelude.{not}
use Rattle.std.specs.List.{list_all, range_with_len}
use Rattle.ps_machine.specs.Bytes.{is_no_bit}
use Rattle.ps_machine.specs.Reporting.{output_byte}
use Rattle.ps_decision.specs.declared.layout.TheConstants.{SIGNALS_AT}
use Rattle.ps_decision.proofs.report.outputs_hold.Given as goal

-- the outputs from this one on hold
abbrev pub invariant-loop-left : goal.invariant-loop-left
invariant-loop-left l = record {
  within : l.left ≤ l.sizes.outputs;
  hold : list_all (λ j. not (is_no_bit (output_byte l.sizes SIGNALS_AT l.cells j))) (range_with_len l.left (l.sizes.outputs - l.left)) ≡ true;
}

abbrev pub decreases-loop-left : goal.decreases-loop-left
decreases-loop-left l = l.left
