use Rattle.std.proofs.Common.{ℕ, sym, ap}
use Rattle.std.specs.Prelude.{not}
use Rattle.std.proofs.lemmas.Bool.{lt-ltb, le-ltb}
use Rattle.ps_machine.specs.Bytes.{is_no_bit}
use Rattle.ps_machine.specs.Reporting.{output_byte}
use Rattle.ps_machine.proofs.Walks.{all_more, not_all}
use Rattle.ps_stackvm.specs.declared.layout.TheConstants.{SIGNALS_AT}
use Rattle.ps_stackvm.proofs.report.outputs_hold.Goals as goal

pub returns-then-byte-gt1 : goal.returns-then-byte-gt1
returns-then-byte-gt1 c =
    let byte : ℕ → ℕ = output_byte c.args.sizes.now SIGNALS_AT c.args.cells.now in
    sym (not_all (λ j. not (is_no_bit (byte j))) c.args.sizes.now.outputs c.loop-j.j c.loop-j-test.true (ap not (lt-ltb 1 (byte c.loop-j.j) c.if-byte-gt1.true)))

pub loop-j-preserved : goal.loop-j-preserved
loop-j-preserved c =
    let byte : ℕ → ℕ = output_byte c.args.sizes.now SIGNALS_AT c.args.cells.now in
    all_more (λ j. not (is_no_bit (byte j))) c.loop-j.j c.loop-j.invariant (ap not (le-ltb 1 (byte c.loop-j.j) c.if-byte-gt1.false))
