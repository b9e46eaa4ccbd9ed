use Rattle.std.proofs.Common.{◌∙◌, ℕ, List, [], ap, subst, arith}
use Rattle.ps_model.specs.Network.{Network}
use Rattle.ps_world.specs.Whole.{Setup, IsSetupOf}
use Rattle.ps_top.specs.Asking.{worked}
use Rattle.ps_top.specs.Asking.Asking.{Says}
use Rattle.ps_top.specs.Calls.{SaysAnswer}
use Rattle.ps_top.specs.Program.{answer, image_lines, imaged}
use Rattle.ps_top.specs.declared.Status.TheVariants.{Done}
use Rattle.ps_top.proofs.Applied.{accepted_answers, checked_none}
use Rattle.ps_top.proofs.Calling.{found_of_all, said_answers}
use Rattle.ps_top.proofs.Refusals.{otherwise_refuses}
use Rattle.ps_top.proofs.imaging.image.Goals as goal

pub returns-in-Ok-both_parts-clause-answers : goal.returns-in-Ok-both_parts-clause-answers
returns-in-Ok-both_parts-clause-answers g c =
    let net : Network = c.in-Ok.app in
    let setup : Setup = c.in-Ok-both_parts.ensures.0 in
    let mid = g.C.Call.seen c.accept_app.new.call in
    let new = g.C.Call.seen c.say_lines.new.call in
    let text = c.as_slice.ensures ∙ c.in-Ok-both_parts.ensures.2 in
    let said = subst (λ (bytes : List ℕ). SaysAnswer (answer bytes Done) mid new c.say_lines.result) text c.say_lines.ensures.says in
    accepted_answers c.args.app.now imaged [] net c.in-Ok.ensures.finds.passes c.in-Ok.ensures.finds.gives
    (found_of_all Setup (IsSetupOf net) (λ s. Says (answer (image_lines s) Done)) [] {old = mid} {new = new} setup c.in-Ok-both_parts.ensures.1
    (said_answers (answer (image_lines setup) Done) [] {old = mid} {new = new} (λ cut. grind arith) said
    (otherwise_refuses Done c.say_lines.result new.left new.out (λ refusing. grind arith) said.ends) (ap worked c.say_lines.ensures.left)))

pub returns-clause-answers : goal.returns-clause-answers
returns-clause-answers g c = checked_none c.args.app.now (λ source. imaged) [] c.in-Err.ensures.none
