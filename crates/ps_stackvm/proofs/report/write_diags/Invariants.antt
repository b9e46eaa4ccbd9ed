use Rattle.std.proofs.Common.{◌≡◌, ◌++◌, drop}
use Rattle.std.specs.Prelude.{map}
use Rattle.std.specs.List.{range_with_len}
use Rattle.ps_machine.specs.Reporting.{diag_at}
use Rattle.ps_stackvm.specs.declared.layout.TheConstants.{SIGNALS_AT}
use Rattle.ps_stackvm.proofs.report.write_diags.Given as goal

abbrev pub invariant-loop-i : goal.invariant-loop-i
invariant-loop-i l = l.diags ≡ map (diag_at l.sizes SIGNALS_AT l.cells) (range_with_len 0 l.i) ++ drop l.i l.initial.diags
