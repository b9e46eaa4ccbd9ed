use Rattle.std.proofs.Common.{◌≡◌, ◌+◌, ◌-◌, ◌≤◌, true}
use Rattle.ps_world.specs.Steps.{after}
use Rattle.ps_world.specs.Whole.{machines_in}
use Rattle.ps_world.specs.Orders.{turn_events}
use Rattle.ps_world.proofs.world.World.take_turns.Given as goal

-- the turns that are left lead on to the world that all of them lead to, and they are as many as the budgets have left
abbrev pub invariant-loop-done : goal.invariant-loop-done
invariant-loop-done l =
    let m = machines_in l.initial.self.setup in
    record {
      setup : l.self.setup ≡ l.initial.self.setup;
      same : after m (turn_events m l.faults (l.most - l.done) l.done l.last l.self.state) l.self.state ≡ after m (turn_events m l.faults l.most 0 l.initial.last l.initial.self.state) l.initial.self.state;
      begun : l.self.state.begun ≡ true;
      count : l.self.state.a.turns + l.self.state.b.turns ≡ l.done;
      few_a : l.self.state.a.turns ≤ m.a.budget;
      few_b : l.self.state.b.turns ≤ m.b.budget;
    }
