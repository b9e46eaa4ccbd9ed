use Rattle.ps_bench_why.proofs.Placed.{ArePlacedUpTo}
use Rattle.ps_bench_why.proofs.placing.places_of.Given as goal

-- the facts so far have their places
abbrev pub invariant-loop-fact : goal.invariant-loop-fact
invariant-loop-fact l = ArePlacedUpTo l.app l.source l.facts l.fact-index l.places.items
