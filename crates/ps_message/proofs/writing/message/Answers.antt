use Rattle.std.proofs.Common.{length, ◌≤◌, refl, ◌∙◌}
use Rattle.ps_base.specs.declared.failing.Place.{Place}
use Rattle.ps_text.specs.Further.{AreGiven}
use Rattle.ps_text.specs.Lines.{IsEnded}
use Rattle.ps_message.specs.Message.{message_text, Says}
use Rattle.ps_message.proofs.Bounds.{short-advice, length-message, message-ended}
use Rattle.ps_text.proofs.Joining.{of_given}
use Rattle.ps_message.proofs.writing.message.Goals as goal

pub returns-clause-bounded : goal.returns-clause-bounded
returns-clause-bounded c =
    let place : Place = c.args.refusal.now.place in
    of_given (λ bytes. length bytes ≤ 3000) (message_text c.advice_of-advice.result c.as_slice.result.now c.args.file.now c.args.text.now place)
    (length-message c.advice_of-advice.result c.as_slice.result.now c.args.file.now c.args.text.now place (short-advice c.advice_of-advice.result c.advice_of-advice.ensures.short) c.advised_message.ensures.numbers.0 c.advised_message.ensures.numbers.1)
    c.advised_message.result c.advised_message.ensures.says

pub returns-clause-ended : goal.returns-clause-ended
returns-clause-ended c =
    let place : Place = c.args.refusal.now.place in
    of_given IsEnded (message_text c.advice_of-advice.result c.as_slice.result.now c.args.file.now c.args.text.now place)
    (message-ended c.advice_of-advice.result c.as_slice.result.now c.args.file.now c.args.text.now place) c.advised_message.result c.advised_message.ensures.says

pub returns-clause-says : goal.returns-clause-says
returns-clause-says c =
    let place : Place = c.args.refusal.now.place in
    let given : AreGiven c.args.words.now c.as_slice.result.now = λ some. c.as_slice.ensures ∙ c.in_ok-further.ensures.given some in
    of_given (Says c.args.file.now c.args.text.now c.args.refusal.now c.args.words.now)
    (message_text c.advice_of-advice.result c.as_slice.result.now c.args.file.now c.args.text.now place)
    (c.advice_of-advice.result, c.advice_of-advice.ensures.name, c.as_slice.result.now, given, refl) c.advised_message.result c.advised_message.ensures.says
