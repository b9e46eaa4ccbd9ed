use Rattle.std.proofs.Common.{◌≡◌, ◌∙◌, false, ap, sym, arith}
use Rattle.std.specs.Prelude.{nat_lt, option_map}
use Rattle.std.specs.Option.{option_map_or}
use Rattle.ps_model.specs.Network.{input_count}
use Rattle.ps_machine.specs.Drivers.{step_of}
use Rattle.ps_machine.proofs.Steps.{never_new, new_by}
use Rattle.ps_machine.proofs.reading.is_new.Goals as goal

pub returns-then-s-signal_count : goal.returns-then-s-signal_count
returns-then-s-signal_count c =
    let other : nat_lt c.args.s (input_count c.args.app.now) ≡ false = grind arith in
    never_new c.args.app.now c.sound.ensures c.args.s c.args.k other (grind arith)

pub returns-in-Some : goal.returns-in-Some
returns-in-Some c =
    let other : nat_lt c.args.s (input_count c.args.app.now) ≡ false = grind arith in
    sym (ap (λ o. option_map_or (λ i. nat_lt i c.args.k) o false) c.in-Some.is)
    ∙ new_by c.args.app.now c.args.s c.args.k c.driver_step.result other (c.driver_step.ensures ∙ ap (option_map step_of) c.driver.ensures)

pub returns-in-None : goal.returns-in-None
returns-in-None c =
    let other : nat_lt c.args.s (input_count c.args.app.now) ≡ false = grind arith in
    sym (ap (λ o. option_map_or (λ i. nat_lt i c.args.k) o false) c.in-None.is)
    ∙ new_by c.args.app.now c.args.s c.args.k c.driver_step.result other (c.driver_step.ensures ∙ ap (option_map step_of) c.driver.ensures)
