use Rattle.std.proofs.Common.{◌≡◌, IfOk, subst}
use Rattle.ps_eqvm.specs.Channel.{workings_b}
use Rattle.ps_machine.specs.Seats.{new_seat}
use Rattle.ps_world.proofs.world.equation_seat.Goals as goal

pub returns : goal.returns
returns c =
    let same = c.in_ok-own_sizes.ensures.same c.args.sizes.now c.requires.sizes in
    subst (λ s. IfOk c.build.result (λ seat. seat ≡ s))
    (λ i. new_seat workings_b (same i) (c.in_ok-image.ensures.code i) (c.turns_b-budget.ensures i))
    c.build.ensures
