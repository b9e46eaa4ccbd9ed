use Rattle.std.proofs.Common.{◌≡◌, drop}
use Rattle.ps_vote.specs.Whole.{machines_in, after_events}
use Rattle.ps_vote.specs.Orders.{of_turn, spoils}
use Rattle.ps_vote.proofs.world.VoteWorld.strike.Given as goal

-- the faults that are left lead on to the world that all of them lead to, and end where all of them end
abbrev pub invariant-loop-fault : goal.invariant-loop-fault
invariant-loop-fault l = record {
  same : after_events (spoils l.heals (machines_in l.self.setup) (of_turn l.turn (drop l.fault-index l.faults)) l.self.state).events l.self
      ≡ after_events (spoils l.heals (machines_in l.initial.self.setup) (of_turn l.turn l.faults) l.initial.self.state).events l.initial.self;
  refusal : (spoils l.heals (machines_in l.self.setup) (of_turn l.turn (drop l.fault-index l.faults)) l.self.state).refused
      ≡ (spoils l.heals (machines_in l.initial.self.setup) (of_turn l.turn l.faults) l.initial.self.state).refused;
}
