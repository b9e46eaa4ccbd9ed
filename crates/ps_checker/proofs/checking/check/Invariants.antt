use Rattle.ps_checker.specs.Objections.{EachUpTo}
use Rattle.ps_checker.proofs.checking.check.Given as goal

abbrev pub invariant-loop-i : goal.invariant-loop-i
invariant-loop-i l = EachUpTo l.app l.cert l.i
