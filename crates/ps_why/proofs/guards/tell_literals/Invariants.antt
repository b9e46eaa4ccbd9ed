use Rattle.std.proofs.Common.{◌≡◌, ◌++◌, drop}
use Rattle.std.specs.Prelude.{flat_map}
use Rattle.ps_ways.specs.Stepping.{conditions_of}
use Rattle.ps_why.specs.Guards.{before_any}
use Rattle.ps_why.specs.Reasons.{literal_is}
use Rattle.ps_why.proofs.guards.tell_literals.Given as goal

-- the literals so far are told, and those that are left
abbrev pub invariant-loop-literal : goal.invariant-loop-literal
invariant-loop-literal l =
    l.facts.items ++ flat_map (literal_is l.step (conditions_of l.seen)) (before_any (drop l.literal-index l.literals))
    ≡ l.fn.facts.items ++ flat_map (literal_is l.step (conditions_of l.seen)) (before_any l.literals)
