use Rattle.std.proofs.Common.{ℕ, sym, ◌∙◌}
use Rattle.std.specs.Prelude.{not}
use Rattle.ps_machine.specs.Bytes.{is_no_bit}
use Rattle.ps_machine.specs.Reporting.{output_byte}
use Rattle.ps_eqvm.specs.declared.layout.TheConstants.{SIGNALS_AT}
use Rattle.ps_eqvm.specs.Plain.{plain_bytes}
use Rattle.ps_machine.proofs.Walks.{all_more, not_all}
use Rattle.ps_eqvm.proofs.report.outputs_hold.Goals as goal

pub returns-then-not-holds : goal.returns-then-not-holds
returns-then-not-holds c =
    let byte : ℕ → ℕ = output_byte c.args.sizes.now SIGNALS_AT (plain_bytes c.args.plain.now) in
    sym (not_all (λ j. not (is_no_bit (byte j))) c.args.sizes.now.outputs c.loop-j.j c.loop-j-test.true (sym c.holds.ensures ∙ c.if-not-holds.true))

pub loop-j-preserved : goal.loop-j-preserved
loop-j-preserved c =
    let byte : ℕ → ℕ = output_byte c.args.sizes.now SIGNALS_AT (plain_bytes c.args.plain.now) in
    all_more (λ j. not (is_no_bit (byte j))) c.loop-j.j c.loop-j.invariant (sym c.holds.ensures ∙ c.if-not-holds.false)
