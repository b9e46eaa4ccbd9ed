use Rattle.std.proofs.Common.{◌∙◌, refl}
use Rattle.ps_base.specs.declared.failing.Place.{Place}
use Rattle.ps_text.specs.Further.{AreGiven}
use Rattle.ps_message.specs.Message.{plain_text, SaysPlainly}
use Rattle.ps_text.proofs.Joining.{of_given}
use Rattle.ps_message.proofs.writing.plain_message.Goals as goal

pub returns : goal.returns
returns c =
    let place : Place = c.args.refusal.now.place in
    let given : AreGiven c.args.words.now c.as_slice.result.now = λ some. c.as_slice.ensures ∙ c.in_ok-further.ensures.given some in
    of_given (SaysPlainly c.args.text.now c.args.refusal.now c.args.words.now)
    (plain_text c.advice_of-advice.result c.as_slice.result.now c.args.text.now place)
    (c.advice_of-advice.result, c.advice_of-advice.ensures.name, c.as_slice.result.now, given, refl) c.plainly_advised.result c.plainly_advised.ensures
