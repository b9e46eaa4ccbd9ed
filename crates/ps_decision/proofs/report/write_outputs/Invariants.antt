use Rattle.std.proofs.Common.{◌≡◌, ◌-◌, ◌≤◌, ◌++◌, take}
use Rattle.std.specs.Prelude.{◌==◌, map}
use Rattle.std.specs.List.{range_with_len}
use Rattle.ps_machine.specs.Reporting.{output_byte}
use Rattle.ps_decision.specs.declared.layout.TheConstants.{SIGNALS_AT}
use Rattle.ps_decision.proofs.report.write_outputs.Given as goal

-- the outputs from this one on are written
abbrev pub invariant-loop-left : goal.invariant-loop-left
invariant-loop-left l = record {
  within : l.left ≤ l.sizes.outputs;
  written : l.outs ≡ take l.left l.initial.outs ++ map (λ j. output_byte l.sizes SIGNALS_AT l.cells j == 1) (range_with_len l.left (l.sizes.outputs - l.left));
}

abbrev pub decreases-loop-left : goal.decreases-loop-left
decreases-loop-left l = l.left
