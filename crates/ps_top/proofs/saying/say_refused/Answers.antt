use Rattle.std.proofs.Common.{◌∙◌, ℕ, List, ap, subst}
use Rattle.ps_top.specs.Calls.{CallSeen, SaysAnswer}
use Rattle.ps_top.specs.Program.{answer}
use Rattle.ps_top.specs.declared.left.Left.{Left}
use Rattle.ps_top.proofs.Refusals.{said_refuses}
use Rattle.ps_top.proofs.saying.say_refused.Goals as goal

pub returns-clause-refuses : goal.returns-clause-refuses
returns-clause-refuses g c =
    let mid = g.C.Call.seen c.leave.new.self in
    let new = g.C.Call.seen c.say.new.call in
    said_refuses c.args.refusal.now c.args.status c.say.result new.left mid new
    (ap (λ (l : Left). l.refusal) c.say.ensures.left ∙ ap (λ (s : CallSeen). s.left.refusal) c.leave.ensures)
    (subst (λ (bytes : List ℕ). SaysAnswer (answer bytes c.args.status) mid new c.say.result) (c.as_slice.ensures ∙ c.refusal_line.ensures) c.say.ensures.says)
