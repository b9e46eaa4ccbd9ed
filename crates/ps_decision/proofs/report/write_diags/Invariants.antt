use Rattle.std.proofs.Common.{◌≡◌, ◌-◌, ◌≤◌, ◌++◌, take}
use Rattle.std.specs.Prelude.{map}
use Rattle.std.specs.List.{range_with_len}
use Rattle.ps_machine.specs.Reporting.{diag_at}
use Rattle.ps_decision.specs.declared.layout.TheConstants.{SIGNALS_AT}
use Rattle.ps_decision.proofs.report.write_diags.Given as goal

-- what the instances from this one on say is written
abbrev pub invariant-loop-left : goal.invariant-loop-left
invariant-loop-left l = record {
  within : l.left ≤ l.sizes.instances;
  written : l.diags ≡ take l.left l.initial.diags ++ map (diag_at l.sizes SIGNALS_AT l.cells) (range_with_len l.left (l.sizes.instances - l.left));
}

abbrev pub decreases-loop-left : goal.decreases-loop-left
decreases-loop-left l = l.left
