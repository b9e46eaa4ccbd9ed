use Rattle.ps_why.proofs.Kept.{HaveStepped}
use Rattle.ps_why.proofs.keeping.step_instances.Given as goal

-- the instances so far have stepped
abbrev pub invariant-loop-i : goal.invariant-loop-i
invariant-loop-i l = HaveStepped l.app l.passed l.signals l.fn.kept l.kept l.i
