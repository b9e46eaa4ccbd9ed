use Rattle.std.proofs.Common.{◌≡◌, true}
use Rattle.std.specs.Prelude.{not, ◌&&◌}
use Rattle.std.specs.List.{list_all, range_with_len}
use Rattle.ps_machine.specs.Bytes.{is_no_bit}
use Rattle.ps_machine.specs.Reporting.{ready_byte, error_byte}
use Rattle.ps_stackvm.specs.declared.layout.TheConstants.{SIGNALS_AT}
use Rattle.ps_stackvm.proofs.report.diags_hold.Given as goal

abbrev pub invariant-loop-i : goal.invariant-loop-i
invariant-loop-i l =
    list_all (λ i. not (is_no_bit (ready_byte l.sizes SIGNALS_AT l.cells i)) && not (is_no_bit (error_byte l.sizes SIGNALS_AT l.cells i))) (range_with_len 0 l.i) ≡ true
