-- A scan has at most the two budgets of Turns.
use Rattle.std.proofs.Common.{ℕ, ◌+◌, ◌≤◌, List, [], ◌∷◌, arith}
use Rattle.ps_model.specs.declared.channel.Channel.TheVariants.{A, B}
use Rattle.ps_machine.proofs.Left.{turns_are_left, same_turns}
use Rattle.ps_world.specs.Worlds.{Machines, World_state, Event, Begin, Turn, Spoil, Compare, Restart}
use Rattle.ps_world.specs.Steps.{world_step, Lawful}
use Rattle.ps_world.specs.Lists.{IsWithinScan, turn_count}
use Rattle.ps_world.specs.Laws.{TurnsAreBounded}

within_budgets : (m : Machines) (inputs : ℕ) (es : List Event) (x : World_state) → Lawful m inputs es x → IsWithinScan es → x.a.turns ≤ m.a.budget → x.b.turns ≤ m.b.budget →
    turn_count es + (x.a.turns + x.b.turns) ≤ m.a.budget + m.b.budget
within_budgets m inputs [] x law within few_a few_b = omega arith
within_budgets m inputs (Turn A ∷ es) x law within few_a few_b =
    let low = turns_are_left m.a x.a law.0.1 in
    let rest = within_budgets m inputs es (world_step m (Turn A) x) law.1 within (omega arith) few_b in
    omega arith
within_budgets m inputs (Turn B ∷ es) x law within few_a few_b =
    let low = turns_are_left m.b x.b law.0.1 in
    let rest = within_budgets m inputs es (world_step m (Turn B) x) law.1 within few_a (omega arith) in
    omega arith
within_budgets m inputs (Spoil A region at bytes ∷ es) x law within few_a few_b =
    let same = same_turns region at bytes x.a in
    let rest = within_budgets m inputs es (world_step m (Spoil A region at bytes) x) law.1 within (omega arith) few_b in
    omega arith
within_budgets m inputs (Spoil B region at bytes ∷ es) x law within few_a few_b =
    let same = same_turns region at bytes x.b in
    let rest = within_budgets m inputs es (world_step m (Spoil B region at bytes) x) law.1 within few_a (omega arith) in
    omega arith
within_budgets m inputs (Begin now ins ∷ es) x law within few_a few_b = absurd within
within_budgets m inputs (Compare ∷ es) x law within few_a few_b = absurd within
within_budgets m inputs (Restart ∷ es) x law within few_a few_b = absurd within

pub turns_are_bounded : (m : Machines) → TurnsAreBounded m
turns_are_bounded m x now inputs ins es law within =
    let most = within_budgets m inputs es (world_step m (Begin now ins) x) law.1 within (omega arith) (omega arith) in
    omega arith
