use Rattle.std.proofs.Common.{◌≡◌, ◌∙◌, suc, ◌+◌, ◌-◌, ◌≤◌, true, false, sym, ap, subst, None, Some, arith}
use Rattle.ps_machine.specs.Channels.{ended}
use Rattle.ps_world.specs.Worlds.{Machines, World_state, Turn, machine, channel}
use Rattle.ps_world.specs.Steps.{world_step, after, both_ended}
use Rattle.ps_world.specs.Whole.{Setup, Whole, machines_in, happened}
use Rattle.ps_world.specs.Orders.{spoils_before, next_turn, turn_events}
use Rattle.ps_world.proofs.Turning.{struck_alike, turns_end, turns_go, all_spent, one_more_turn}
use Rattle.ps_world.proofs.world.World.take_turns.Goals as goal

pub returns-in-None-clause-events : goal.returns-in-None-clause-events
returns-in-None-clause-events c =
    let at : Setup → Machines = machines_in in
    let m = at c.args.self.now.setup in
    let x = c.loop-done.self.state in
    let faults = c.args.faults.now in
    let spoils = spoils_before (c.loop-done.done + 1) faults in
    let most = c.from.result + c.from-2.result in
    let left = most - (c.loop-done.done + 1) in
    let struck : c.strike.new.self ≡ record { setup = c.args.self.now.setup; state = after m spoils x } =
    c.strike.ensures ∙ ap (λ (s : Setup). record { setup = s; state = after (at s) spoils x }) c.loop-done.invariant.setup in
    let over : both_ended m (after m spoils x) ≡ true = subst (λ (w : Whole). both_ended (at w.setup) w.state ≡ true) struck c.in-None.ensures.none in
    let one : suc left ≡ most - c.loop-done.done = omega (arith, c.loop-done-test.true) in
    let whole : most ≡ c.args.self.now.setup.budget_a + c.args.self.now.setup.budget_b =
    (λ i. c.from.ensures i + c.from-2.ensures i) ∙ (λ i. c.budget.ensures i + c.budget-2.ensures i) ∙ ap (λ (w : Whole). w.setup.budget_a + w.setup.budget_b) c.self.view_is in
    struck ∙ ap (λ (y : World_state). record { setup = c.args.self.now.setup; state = y })
    (sym (turns_end m faults left c.loop-done.done c.loop-done.last x over)
    ∙ ap (λ n. after m (turn_events m faults n c.loop-done.done c.loop-done.last x) x) one
    ∙ c.loop-done.invariant.same
    ∙ ap (λ n. after m (turn_events m faults n 0 None c.args.self.now.state) c.args.self.now.state) whole)

pub turn-requires-clause-begun : goal.turn-requires-clause-begun
turn-requires-clause-begun c =
    let at : Setup → Machines = machines_in in
    let x = c.loop-done.self.state in
    ap (λ (w : Whole). w.state.begun) c.strike.ensures
    ∙ (struck_alike (at c.loop-done.self.setup) (c.loop-done.done + 1) c.args.faults.now x).begun ∙ c.loop-done.invariant.begun

pub loop-done-preserved : goal.loop-done-preserved
loop-done-preserved c =
    let at : Setup → Machines = machines_in in
    let m = at c.args.self.now.setup in
    let x = c.loop-done.self.state in
    let done = c.loop-done.done in
    let faults = c.args.faults.now in
    let of = c.in-Some.of in
    let spoils = spoils_before (done + 1) faults in
    let y = after m spoils x in
    let most = c.from.result + c.from-2.result in
    let left = most - (done + 1) in
    let struck : c.strike.new.self ≡ record { setup = c.args.self.now.setup; state = y } =
    c.strike.ensures ∙ ap (λ (s : Setup). record { setup = s; state = after (at s) spoils x }) c.loop-done.invariant.setup in
    let turned : c.turn.new.self ≡ record { setup = c.args.self.now.setup; state = world_step m (Turn of) y } =
    c.turn.ensures ∙ ap (λ (w : Whole). happened (Turn of) w) struck in
    let some = c.in-Some.ensures.some in
    let next : of ≡ next_turn m c.loop-done.last y = subst (λ (w : Whole). of ≡ next_turn (at w.setup) c.loop-done.last w.state) struck some.0 in
    let goes : ended (machine of m) (channel of y) ≡ false = subst (λ (w : Whole). ended (machine of (at w.setup)) (channel of w.state) ≡ false) struck some.1 in
    let more : both_ended m y ≡ false = subst (λ (w : Whole). both_ended (at w.setup) w.state ≡ false) struck some.2 in
    let alike = struck_alike m (done + 1) faults x in
    let turns_a = alike.turns_a in
    let turns_b = alike.turns_b in
    let few_a = c.loop-done.invariant.few_a in
    let few_b = c.loop-done.invariant.few_b in
    let count = c.loop-done.invariant.count in
    let step = one_more_turn m of y (omega arith) (omega arith) goes in
    let sum = step.more in
    let one : suc left ≡ most - done = omega (arith, c.loop-done-test.true) in
    record {
      setup = ap (λ (w : Whole). w.setup) turned;
      same = ap (λ (w : Whole). after m (turn_events m faults left (done + 1) (Some of) w.state) w.state) turned
          ∙ sym (turns_go m faults left done c.loop-done.last of x more next)
          ∙ ap (λ n. after m (turn_events m faults n done c.loop-done.last x) x) one
          ∙ c.loop-done.invariant.same;
      begun = ap (λ (w : Whole). w.state.begun) turned ∙ alike.begun ∙ c.loop-done.invariant.begun;
      count = ap (λ (w : Whole). w.state.a.turns + w.state.b.turns) turned ∙ omega arith;
      few_a = subst (λ (w : Whole). w.state.a.turns ≤ m.a.budget) (sym turned) step.few_a;
      few_b = subst (λ (w : Whole). w.state.b.turns ≤ m.b.budget) (sym turned) step.few_b;
    }

pub returns-clause-over : goal.returns-clause-over
returns-clause-over c =
    let at : Setup → Machines = machines_in in
    let m = at c.args.self.now.setup in
    let x = c.loop-done.self.state in
    let faults = c.args.faults.now in
    let most = c.from.result + c.from-2.result in
    let spoils = spoils_before (most + 1) faults in
    let struck : c.strike-2.new.self ≡ record { setup = c.args.self.now.setup; state = after m spoils x } =
    c.strike-2.ensures ∙ ap (λ (s : Setup). record { setup = s; state = after (at s) spoils x }) c.loop-done.invariant.setup in
    let alike = struck_alike m (most + 1) faults x in
    let turns_a = alike.turns_a in
    let turns_b = alike.turns_b in
    let few_a = c.loop-done.invariant.few_a in
    let few_b = c.loop-done.invariant.few_b in
    let count = c.loop-done.invariant.count in
    let whole : most ≡ m.a.budget + m.b.budget =
    (λ i. c.from.ensures i + c.from-2.ensures i) ∙ (λ i. c.budget.ensures i + c.budget-2.ensures i) ∙ ap (λ (w : Whole). w.setup.budget_a + w.setup.budget_b) c.self.view_is in
    let ended_now = c.loop-done-test.false in
    ap (λ (w : Whole). both_ended m w.state) struck ∙ all_spent m (after m spoils x) (omega arith) (omega arith) (omega arith)

pub returns-in-None-clause-begun : goal.returns-in-None-clause-begun
returns-in-None-clause-begun c =
    let m = machines_in c.loop-done.self.setup in
    ap (λ (w : Whole). w.state.begun) c.strike.ensures
    ∙ (struck_alike m (c.loop-done.done + 1) c.args.faults.now c.loop-done.self.state).begun ∙ c.loop-done.invariant.begun

pub returns-clause-begun : goal.returns-clause-begun
returns-clause-begun c =
    let m = machines_in c.loop-done.self.setup in
    ap (λ (w : Whole). w.state.begun) c.strike-2.ensures
    ∙ (struck_alike m (c.from.result + c.from-2.result + 1) c.args.faults.now c.loop-done.self.state).begun ∙ c.loop-done.invariant.begun
