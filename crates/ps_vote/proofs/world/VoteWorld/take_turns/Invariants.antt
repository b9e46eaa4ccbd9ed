use Rattle.std.proofs.Common.{◌≡◌, ◌-◌, true}
use Rattle.ps_vote.specs.Steps.{after}
use Rattle.ps_vote.specs.Whole.{machines_in}
use Rattle.ps_vote.specs.Orders.{turns}
use Rattle.ps_vote.proofs.world.VoteWorld.take_turns.Given as goal

-- the turns that are left lead on to the world that all of them lead to, and end where all of them end
abbrev pub invariant-loop-done : goal.invariant-loop-done
invariant-loop-done l =
    let m = machines_in l.initial.self.setup in
    record {
      setup : l.self.setup ≡ l.initial.self.setup;
      same : after m (turns l.heals m l.faults (l.most - l.done) l.done l.last l.self.state).events l.self.state
          ≡ after m (turns l.heals m l.faults l.most 0 l.initial.last l.initial.self.state).events l.initial.self.state;
      refusal : (turns l.heals m l.faults (l.most - l.done) l.done l.last l.self.state).refused ≡ (turns l.heals m l.faults l.most 0 l.initial.last l.initial.self.state).refused;
      begun : l.self.state.begun ≡ true;
    }
