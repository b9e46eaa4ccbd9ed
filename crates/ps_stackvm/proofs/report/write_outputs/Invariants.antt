use Rattle.std.proofs.Common.{◌≡◌, ◌++◌, drop}
use Rattle.std.specs.Prelude.{◌==◌, map}
use Rattle.std.specs.List.{range_with_len}
use Rattle.ps_machine.specs.Reporting.{output_byte}
use Rattle.ps_stackvm.specs.declared.layout.TheConstants.{SIGNALS_AT}
use Rattle.ps_stackvm.proofs.report.write_outputs.Given as goal

abbrev pub invariant-loop-j : goal.invariant-loop-j
invariant-loop-j l = l.outs ≡ map (λ j. output_byte l.sizes SIGNALS_AT l.cells j == 1) (range_with_len 0 l.j) ++ drop l.j l.initial.outs
