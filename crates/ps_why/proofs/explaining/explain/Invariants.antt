use Rattle.ps_why.proofs.Told.{IsToldSoFar}
use Rattle.ps_why.proofs.explaining.explain.Given as goal

-- the reasons of the first n facts are told
abbrev pub invariant-loop-n : goal.invariant-loop-n
invariant-loop-n l = IsToldSoFar l.app l.scene l.roots l.n l.facts.items l.reasons.items
