use Rattle.std.proofs.Common.{◌≡◌, IfOk, subst}
use Rattle.ps_stackvm.specs.Channel.{workings_a}
use Rattle.ps_machine.specs.Seats.{new_seat}
use Rattle.ps_world.proofs.world.stack_seat.Goals as goal

pub returns : goal.returns
returns c =
    subst (λ s. IfOk c.build.result (λ seat. seat ≡ s))
    (λ i. new_seat workings_a c.args.sizes.now (c.in_ok-image.ensures.code i) (c.turns_a-budget.ensures i))
    c.build.ensures
