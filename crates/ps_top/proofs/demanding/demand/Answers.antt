use Rattle.std.proofs.Common.{ℕ, List, [], ap, subst, arith}
use Rattle.ps_accepted.specs.Demanding.{IsDemandableAs}
use Rattle.ps_top.specs.Asking.{worked}
use Rattle.ps_top.specs.Calls.{SaysAnswer}
use Rattle.ps_top.specs.Program.{LeavesAccepted, answer, demanded}
use Rattle.ps_top.specs.declared.Status.TheVariants.{Done}
use Rattle.ps_top.proofs.Applied.{none_answers}
use Rattle.ps_top.proofs.Calling.{said_answers}
use Rattle.ps_top.proofs.Demands.{lines_answers}
use Rattle.ps_top.proofs.Refusals.{otherwise_refuses}
use Rattle.ps_top.proofs.demanding.demand.Goals as goal

pub returns-in-Ok-clause-answers : goal.returns-in-Ok-clause-answers
returns-in-Ok-clause-answers g c =
    let old = g.C.Call.seen c.args.call.now in
    let mid = g.C.Call.seen c.accept_demands.new.call in
    let new = g.C.Call.seen c.say_lines.new.call in
    let lines : List ℕ = c.in-Ok.lines in
    let said = subst (λ (bytes : List ℕ). SaysAnswer (answer bytes Done) mid new c.say_lines.result) c.as_slice.ensures c.say_lines.ensures.says in
    lines_answers c.args.app.now lines {old = old} {mid = mid} {new = new} c.in-Ok.ensures.finds
    (said_answers (answer lines Done) [] {old = mid} {new = new} (λ cut. grind arith) said
    (otherwise_refuses Done c.say_lines.result new.left new.out (λ refusing. grind arith) said.ends) (ap worked c.say_lines.ensures.left))

pub returns-in-Err-clause-answers : goal.returns-in-Err-clause-answers
returns-in-Err-clause-answers g c = none_answers c.args.app.now LeavesAccepted IsDemandableAs (λ source. demanded) [] c.in-Err.ensures.none
