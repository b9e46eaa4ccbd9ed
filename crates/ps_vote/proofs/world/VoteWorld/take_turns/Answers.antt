use Rattle.std.proofs.Common.{rules, ◌≡◌, ◌∙◌, suc, ◌+◌, ◌-◌, true, false, Err, Some, None, sym, ap, subst, arith}
use Rattle.ps_vote.specs.Worlds.{Machines, World_state, Turn}
use Rattle.ps_vote.specs.Steps.{world_step, after, all_ended}
use Rattle.ps_vote.specs.Whole.{Setup, Whole, machines_in, happened}
use Rattle.ps_vote.specs.Orders.{of_turn, spoils, next_turn, turns, path_answer}
use Rattle.ps_vote.proofs.Paths.{answers_none, answers_some}
use Rattle.ps_vote.proofs.Reaching.{spoils_alike}
use Rattle.ps_vote.proofs.Turning.{turns_stop, turns_end, turns_go}
use Rattle.ps_vote.proofs.world.VoteWorld.take_turns.Goals as goal

pub returns-in_err-strike-clause-events : goal.returns-in_err-strike-clause-events
returns-in_err-strike-clause-events c =
    let at : Setup → Machines = machines_in in
    let m = at c.args.self.now.setup in
    let x = c.loop-done.self.state in
    let done = c.loop-done.done in
    let faults = c.args.faults.now in
    let heals = c.args.heals in
    let most = c.most_turns-most.result in
    let left = most - (done + 1) in
    let struck : c.strike.new.self ≡ record { setup = c.args.self.now.setup; state = after m (spoils heals m (of_turn (done + 1) faults) x).events x } =
    c.strike.ensures.events ∙ ap (λ (s : Setup). record { setup = s; state = after (at s) (spoils heals (at s) (of_turn (done + 1) faults) x).events x }) c.loop-done.invariant.setup in
    let stop = answers_some (spoils heals (at c.loop-done.self.setup) (of_turn (done + 1) faults) x).refused c.in_err-strike.field-0.0 c.in_err-strike.ensures.refused in
    let some = ap (λ (s : Setup). (spoils heals (at s) (of_turn (done + 1) faults) x).refused) (sym c.loop-done.invariant.setup) ∙ stop.1 in
    let one : suc left ≡ most - done = omega (arith, c.loop-done-test.true) in
    struck ∙ ap (λ (y : World_state). record { setup = c.args.self.now.setup; state = y })
    (sym (turns_stop heals m faults left done c.loop-done.last x stop.0 some).0
    ∙ ap (λ n. after m (turns heals m faults n done c.loop-done.last x).events x) one
    ∙ c.loop-done.invariant.same
    ∙ ap (λ n. after m (turns heals m faults n 0 None c.args.self.now.state).events c.args.self.now.state) c.most_turns-most.ensures.sum)

pub returns-in_err-strike-clause-refused : goal.returns-in_err-strike-clause-refused
returns-in_err-strike-clause-refused c =
    let at : Setup → Machines = machines_in in
    let m = at c.args.self.now.setup in
    let x = c.loop-done.self.state in
    let done = c.loop-done.done in
    let faults = c.args.faults.now in
    let heals = c.args.heals in
    let most = c.most_turns-most.result in
    let left = most - (done + 1) in
    let stop = answers_some (spoils heals (at c.loop-done.self.setup) (of_turn (done + 1) faults) x).refused c.in_err-strike.field-0.0 c.in_err-strike.ensures.refused in
    let some = ap (λ (s : Setup). (spoils heals (at s) (of_turn (done + 1) faults) x).refused) (sym c.loop-done.invariant.setup) ∙ stop.1 in
    let one : suc left ≡ most - done = omega (arith, c.loop-done-test.true) in
    let same : c.from_residual.result ≡ Err c.in_err-strike.field-0.0 = search rules in
    same ∙ ap Err (sym stop.2) ∙ ap path_answer
    (sym (turns_stop heals m faults left done c.loop-done.last x stop.0 some).1
    ∙ ap (λ n. (turns heals m faults n done c.loop-done.last x).refused) one
    ∙ c.loop-done.invariant.refusal
    ∙ ap (λ n. (turns heals m faults n 0 None c.args.self.now.state).refused) c.most_turns-most.ensures.sum)

pub returns-in-None-clause-events : goal.returns-in-None-clause-events
returns-in-None-clause-events c =
    let at : Setup → Machines = machines_in in
    let m = at c.args.self.now.setup in
    let x = c.loop-done.self.state in
    let done = c.loop-done.done in
    let faults = c.args.faults.now in
    let heals = c.args.heals in
    let most = c.most_turns-most.result in
    let left = most - (done + 1) in
    let y = after m (spoils heals m (of_turn (done + 1) faults) x).events x in
    let struck : c.strike.new.self ≡ record { setup = c.args.self.now.setup; state = y } =
    c.strike.ensures.events ∙ ap (λ (s : Setup). record { setup = s; state = after (at s) (spoils heals (at s) (of_turn (done + 1) faults) x).events x }) c.loop-done.invariant.setup in
    let none = ap (λ (s : Setup). (spoils heals (at s) (of_turn (done + 1) faults) x).refused) (sym c.loop-done.invariant.setup)
    ∙ answers_none (spoils heals (at c.loop-done.self.setup) (of_turn (done + 1) faults) x).refused c.in_ok-strike.ensures.refused in
    let over : all_ended m y ≡ true = subst (λ (w : Whole). all_ended (at w.setup) w.state ≡ true) struck c.in-None.ensures.none in
    let one : suc left ≡ most - done = omega (arith, c.loop-done-test.true) in
    struck ∙ ap (λ (z : World_state). record { setup = c.args.self.now.setup; state = z })
    (sym (turns_end heals m faults left done c.loop-done.last x none over).0
    ∙ ap (λ n. after m (turns heals m faults n done c.loop-done.last x).events x) one
    ∙ c.loop-done.invariant.same
    ∙ ap (λ n. after m (turns heals m faults n 0 None c.args.self.now.state).events c.args.self.now.state) c.most_turns-most.ensures.sum)

pub returns-in-None-clause-refused : goal.returns-in-None-clause-refused
returns-in-None-clause-refused c =
    let at : Setup → Machines = machines_in in
    let m = at c.args.self.now.setup in
    let x = c.loop-done.self.state in
    let done = c.loop-done.done in
    let faults = c.args.faults.now in
    let heals = c.args.heals in
    let most = c.most_turns-most.result in
    let left = most - (done + 1) in
    let y = after m (spoils heals m (of_turn (done + 1) faults) x).events x in
    let struck : c.strike.new.self ≡ record { setup = c.args.self.now.setup; state = y } =
    c.strike.ensures.events ∙ ap (λ (s : Setup). record { setup = s; state = after (at s) (spoils heals (at s) (of_turn (done + 1) faults) x).events x }) c.loop-done.invariant.setup in
    let none = ap (λ (s : Setup). (spoils heals (at s) (of_turn (done + 1) faults) x).refused) (sym c.loop-done.invariant.setup)
    ∙ answers_none (spoils heals (at c.loop-done.self.setup) (of_turn (done + 1) faults) x).refused c.in_ok-strike.ensures.refused in
    let over : all_ended m y ≡ true = subst (λ (w : Whole). all_ended (at w.setup) w.state ≡ true) struck c.in-None.ensures.none in
    let one : suc left ≡ most - done = omega (arith, c.loop-done-test.true) in
    ap path_answer
    (sym (turns_end heals m faults left done c.loop-done.last x none over).1
    ∙ ap (λ n. (turns heals m faults n done c.loop-done.last x).refused) one
    ∙ c.loop-done.invariant.refusal
    ∙ ap (λ n. (turns heals m faults n 0 None c.args.self.now.state).refused) c.most_turns-most.ensures.sum)

pub turn-requires-clause-begun : goal.turn-requires-clause-begun
turn-requires-clause-begun c =
    let at : Setup → Machines = machines_in in
    ap (λ (w : Whole). w.state.begun) c.strike.ensures.events
    ∙ (spoils_alike c.args.heals (at c.loop-done.self.setup) (of_turn (c.loop-done.done + 1) c.args.faults.now) c.loop-done.self.state).same_begun ∙ c.loop-done.invariant.begun

pub loop-done-preserved : goal.loop-done-preserved
loop-done-preserved c =
    let at : Setup → Machines = machines_in in
    let m = at c.args.self.now.setup in
    let x = c.loop-done.self.state in
    let done = c.loop-done.done in
    let faults = c.args.faults.now in
    let heals = c.args.heals in
    let seat = c.in-Some.seat in
    let most = c.most_turns-most.result in
    let left = most - (done + 1) in
    let y = after m (spoils heals m (of_turn (done + 1) faults) x).events x in
    let struck : c.strike.new.self ≡ record { setup = c.args.self.now.setup; state = y } =
    c.strike.ensures.events ∙ ap (λ (s : Setup). record { setup = s; state = after (at s) (spoils heals (at s) (of_turn (done + 1) faults) x).events x }) c.loop-done.invariant.setup in
    let none = ap (λ (s : Setup). (spoils heals (at s) (of_turn (done + 1) faults) x).refused) (sym c.loop-done.invariant.setup)
    ∙ answers_none (spoils heals (at c.loop-done.self.setup) (of_turn (done + 1) faults) x).refused c.in_ok-strike.ensures.refused in
    let turned : c.turn.new.self ≡ record { setup = c.args.self.now.setup; state = world_step m (Turn seat) y } =
    c.turn.ensures ∙ ap (λ (w : Whole). happened (Turn seat) w) struck in
    let some = c.in-Some.ensures.some in
    let next : seat ≡ next_turn m c.loop-done.last y = subst (λ (w : Whole). seat ≡ next_turn (at w.setup) c.loop-done.last w.state) struck some.0 in
    let more : all_ended m y ≡ false = subst (λ (w : Whole). all_ended (at w.setup) w.state ≡ false) struck some.2 in
    let goes = turns_go heals m faults left done c.loop-done.last x seat none more next in
    let one : suc left ≡ most - done = omega (arith, c.loop-done-test.true) in
    record {
      setup = ap (λ (w : Whole). w.setup) turned;
      same = ap (λ (w : Whole). after m (turns heals m faults left (done + 1) (Some seat) w.state).events w.state) turned
          ∙ sym goes.0
          ∙ ap (λ n. after m (turns heals m faults n done c.loop-done.last x).events x) one
          ∙ c.loop-done.invariant.same;
      refusal = ap (λ (w : Whole). (turns heals m faults left (done + 1) (Some seat) w.state).refused) turned
          ∙ sym goes.1
          ∙ ap (λ n. (turns heals m faults n done c.loop-done.last x).refused) one
          ∙ c.loop-done.invariant.refusal;
      begun = ap (λ (w : Whole). w.state.begun) turned
          ∙ (spoils_alike heals m (of_turn (done + 1) faults) x).same_begun ∙ c.loop-done.invariant.begun;
    }
