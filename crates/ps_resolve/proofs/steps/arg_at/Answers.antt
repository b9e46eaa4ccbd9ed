use Rattle.std.proofs.Common.{sym, ap, ◌∙◌}
use Rattle.ps_parser.specs.declared.statement.Argument.{Argument}
use Rattle.ps_base.specs.LetterCase.{is_same_name}
use Rattle.ps_resolve.proofs.Arguments.{other_pin}
use Rattle.ps_resolve.proofs.steps.arg_at.Goals as goal

pub loop-argument-preserved : goal.loop-argument-preserved
loop-argument-preserved c =
    other_pin c.args.numbering.now.entries.now c.args.pin.now c.args.arguments.now c.loop-argument.argument-index c.argument-item.result c.loop-argument-test.true
    (ap (λ (a : Argument). is_same_name a.pin.text c.args.pin.now) (sym c.argument-item.is) ∙ ap (is_same_name c.argument-item.result.pin.text) (sym c.as_bytes.ensures.value) ∙ sym c.is_word.ensures ∙ c.if-is_word.false)
    ∙ c.loop-argument.invariant
