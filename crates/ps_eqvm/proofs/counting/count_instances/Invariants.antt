use Rattle.ps_eqvm.proofs.Chunks.{CountedTo}
use Rattle.ps_eqvm.proofs.counting.count_instances.Given as goal

-- the instances up to here are counted, and the others are as they were
abbrev pub invariant-loop-i : goal.invariant-loop-i
invariant-loop-i l = CountedTo l.limits l.now l.initial.blocks l.blocks l.i
