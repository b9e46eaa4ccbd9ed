use Rattle.std.proofs.Common.{refl}
use Rattle.std.proofs.lemmas.Result.{IfOk-weaker}
use Rattle.ps_bench_messages.proofs.advising.said_message.Goals as goal

pub returns : goal.returns
returns c = IfOk-weaker c.advised_message.result _ _
    (λ bytes is. (c.args.advice.now, refl, c.args.words.now, c.args.place.now, refl, is)) c.advised_message.ensures.says
