use Rattle.std.proofs.Common.{map, take}
use Rattle.ps_offences.specs.Tallies.{Counts}
use Rattle.ps_offences.proofs.counts.declared_of.Given as goal

abbrev pub invariant-loop-i : goal.invariant-loop-i
invariant-loop-i l = Counts l.names (map (λ d. d.name) (take l.i l.declared))
