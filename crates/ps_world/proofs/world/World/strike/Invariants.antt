use Rattle.std.proofs.Common.{◌≡◌, drop}
use Rattle.ps_world.specs.Whole.{after_events}
use Rattle.ps_world.specs.Orders.{spoils_before}
use Rattle.ps_world.proofs.world.World.strike.Given as goal

-- the faults that are left lead on to the world that all of them lead to
abbrev pub invariant-loop-fault : goal.invariant-loop-fault
invariant-loop-fault l =
    after_events (spoils_before l.turn (drop l.fault-index l.faults)) l.self ≡ after_events (spoils_before l.turn l.faults) l.initial.self
