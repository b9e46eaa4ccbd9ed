use Rattle.std.proofs.Common.{◌≡◌, ◌-◌, ◌≤◌, true}
use Rattle.std.specs.Prelude.{not, ◌&&◌}
use Rattle.std.specs.List.{list_all, range_with_len}
use Rattle.ps_machine.specs.Bytes.{is_no_bit}
use Rattle.ps_machine.specs.Reporting.{ready_byte, error_byte}
use Rattle.ps_decision.specs.declared.layout.TheConstants.{SIGNALS_AT}
use Rattle.ps_decision.proofs.report.diags_hold.Given as goal

-- the instances from this one on hold
abbrev pub invariant-loop-left : goal.invariant-loop-left
invariant-loop-left l = record {
  within : l.left ≤ l.sizes.instances;
  hold : list_all (λ i. not (is_no_bit (ready_byte l.sizes SIGNALS_AT l.cells i)) && not (is_no_bit (error_byte l.sizes SIGNALS_AT l.cells i)))
      (range_with_len l.left (l.sizes.instances - l.left)) ≡ true;
}

abbrev pub decreases-loop-left : goal.decreases-loop-left
decreases-loop-left l = l.left
