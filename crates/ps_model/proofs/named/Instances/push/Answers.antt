use Rattle.std.proofs.Common.{◌≡◌, length, take, ap, ◌∙◌, arith}
use Rattle.std.proofs.lemmas.List.{take-append-le, take_all}
use Rattle.std.proofs.lemmas.Grind.{common_steps}
use Rattle.ps_model.proofs.Placing.{placed_in}
use Rattle.ps_model.proofs.named.Instances.push.Goals as goal

pub invariant_of-self-in-Ok : goal.invariant_of-self-in-Ok
invariant_of-self-in-Ok c =
    placed_in c.self.inside.items.items c.self.inside.types.items c.self.inside.owners.items c.args.instance c.self.invariant
    c.push.new.self.items c.push_outputs.new.types.items c.push_outputs.new.owners.items
    (grind (arith, common_steps)) c.in-Ok.ensures.types (grind (arith, common_steps))

pub invariant_of-self-in-Err : goal.invariant_of-self-in-Err
invariant_of-self-in-Err c =
    let old = c.self.inside.items.items in
    let place = c.len-place.result in
    let all : place ≡ length old = grind (arith, common_steps) in
    let back : c.truncate.new.self.items ≡ old =
    c.truncate.ensures.items ∙ ap (take place) c.in_ok-push.ensures.items
    ∙ take-append-le place old _ (omega arith) ∙ take_all place old (omega arith) in
    rw (back, c.in-Err.ensures.types_kept, c.in-Err.ensures.owners_kept) c.self.invariant

pub invariant_of-self : goal.invariant_of-self
invariant_of-self c = rw c.in_err-push.ensures.items c.self.invariant
