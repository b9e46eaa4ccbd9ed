use Rattle.std.proofs.Common.{◌∙◌, [], sym, ap, arith}
use Rattle.ps_words.specs.Command.{command_of, names_of, usage_line}
use Rattle.ps_words.specs.Command.Command.{Run, Fault, Check, Cert, Verify, Image, Load, Demand, Vote, Heal, NotTaken}
use Rattle.ps_words.specs.Seen.{command_seen}
use Rattle.ps_top.specs.Asking.{worked}
use Rattle.ps_top.specs.Program.{answer, text}
use Rattle.ps_top.specs.declared.Status.TheVariants.{Usage}
use Rattle.ps_top.proofs.Calling.{memory_answers, passes_same, said_answers}
use Rattle.ps_top.proofs.Completing.{words_answer}
use Rattle.ps_top.proofs.Refusals.{otherwise_refuses}
use Rattle.ps_top.proofs.program.do_words.Goals as goal

pub returns-in-Err-clause-answers : goal.returns-in-Err-clause-answers
returns-in-Err-clause-answers g c = memory_answers (text c.args.words.now) (names_of (command_of c.args.words.now)) (passes_same _)

pub returns-in-NotTaken-clause-answers : goal.returns-in-NotTaken-clause-answers
returns-in-NotTaken-clause-answers g c =
    let new = g.C.Call.seen c.say.new.call in
    words_answer c.args.words.now NotTaken (sym (ap command_seen c.in-NotTaken.is) ∙ c.in-Ok.ensures.asked)
    (said_answers (answer usage_line Usage) [] (λ cut. grind arith) c.say.ensures.says
    (otherwise_refuses Usage c.say.result new.left new.out (λ refusing. grind arith) c.say.ensures.says.ends) (ap worked c.say.ensures.left))

pub returns-in-Run-clause-answers : goal.returns-in-Run-clause-answers
returns-in-Run-clause-answers g c = words_answer c.args.words.now (Run c.in-Run.app.now c.in-Run.trace.now) (sym (ap command_seen c.in-Run.is) ∙ c.in-Ok.ensures.asked) c.run.ensures.answers

pub returns-in-Fault-clause-answers : goal.returns-in-Fault-clause-answers
returns-in-Fault-clause-answers g c = words_answer c.args.words.now (Fault c.in-Fault.app.now c.in-Fault.trace.now c.in-Fault.faults.now) (sym (ap command_seen c.in-Fault.is) ∙ c.in-Ok.ensures.asked) c.fault.ensures.answers

pub returns-in-Check-clause-answers : goal.returns-in-Check-clause-answers
returns-in-Check-clause-answers g c = words_answer c.args.words.now (Check c.in-Check.app.now) (sym (ap command_seen c.in-Check.is) ∙ c.in-Ok.ensures.asked) c.check.ensures.answers

pub returns-in-Cert-clause-answers : goal.returns-in-Cert-clause-answers
returns-in-Cert-clause-answers g c = words_answer c.args.words.now (Cert c.in-Cert.app.now) (sym (ap command_seen c.in-Cert.is) ∙ c.in-Ok.ensures.asked) c.cert.ensures.answers

pub returns-in-Verify-clause-answers : goal.returns-in-Verify-clause-answers
returns-in-Verify-clause-answers g c = words_answer c.args.words.now (Verify c.in-Verify.app.now c.in-Verify.cert.now) (sym (ap command_seen c.in-Verify.is) ∙ c.in-Ok.ensures.asked) c.verify.ensures.answers

pub returns-in-Image-clause-answers : goal.returns-in-Image-clause-answers
returns-in-Image-clause-answers g c = words_answer c.args.words.now (Image c.in-Image.app.now) (sym (ap command_seen c.in-Image.is) ∙ c.in-Ok.ensures.asked) c.image.ensures.answers

pub returns-in-Demand-clause-answers : goal.returns-in-Demand-clause-answers
returns-in-Demand-clause-answers g c = words_answer c.args.words.now (Demand c.in-Demand.app.now) (sym (ap command_seen c.in-Demand.is) ∙ c.in-Ok.ensures.asked) c.demand.ensures.answers

pub returns-in-Vote-clause-answers : goal.returns-in-Vote-clause-answers
returns-in-Vote-clause-answers g c = words_answer c.args.words.now (Vote c.in-Vote.app.now c.in-Vote.trace.now c.in-Vote.faults.now) (sym (ap command_seen c.in-Vote.is) ∙ c.in-Ok.ensures.asked) c.vote.ensures.answers

pub returns-in-Heal-clause-answers : goal.returns-in-Heal-clause-answers
returns-in-Heal-clause-answers g c = words_answer c.args.words.now (Heal c.in-Heal.app.now c.in-Heal.trace.now c.in-Heal.faults.now) (sym (ap command_seen c.in-Heal.is) ∙ c.in-Ok.ensures.asked) c.vote-in-Heal.ensures.answers

pub returns-in-Load-clause-answers : goal.returns-in-Load-clause-answers
returns-in-Load-clause-answers g c = words_answer c.args.words.now (Load c.in-Load.number) (sym (ap command_seen c.in-Load.is) ∙ c.in-Ok.ensures.asked) c.load.ensures.answers
