use Rattle.std.proofs.Common.{◌≡◌, drop, not}
use Rattle.std.specs.Prelude.{find}
use Rattle.ps_ways.specs.Stepping.{conditions_of}
use Rattle.ps_ways.specs.Ways.{meets}
use Rattle.ps_why.specs.Guards.{before_any}
use Rattle.ps_why.proofs.guards.failing.Given as goal

-- the literals that are left decide
abbrev pub invariant-loop-literal : goal.invariant-loop-literal
invariant-loop-literal l =
    find (λ x. not (meets x (conditions_of l.seen))) (before_any l.literals)
    ≡ find (λ x. not (meets x (conditions_of l.seen))) (before_any (drop l.literal-index l.literals))
