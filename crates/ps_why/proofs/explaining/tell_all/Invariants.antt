use Rattle.ps_why.specs.Entering.{EntersAll}
use Rattle.ps_why.proofs.explaining.tell_all.Given as goal

-- the facts so far are told
abbrev pub invariant-loop-fact : goal.invariant-loop-fact
invariant-loop-fact l = EntersAll l.fn.facts.items l.facts.items l.fact-index l.given l.told.items
