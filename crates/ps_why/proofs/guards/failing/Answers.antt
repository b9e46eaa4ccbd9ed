use Rattle.std.proofs.Common.{◌≡◌, ◌∙◌, [], List, ap, drop, not, sym, arith}
use Rattle.std.specs.Prelude.{find}
use Rattle.std.proofs.lemmas.Grind.{common_steps}
use Rattle.ps_ways.specs.Stepping.{conditions_of}
use Rattle.ps_ways.specs.Ways.{meets}
use Rattle.ps_ways.specs.declared.way.Literal.{Literal}
use Rattle.ps_why.specs.Guards.{before_any}
use Rattle.ps_why.proofs.Guarding.{failing_end, failing_here, failing_next}
use Rattle.ps_why.proofs.guards.failing.Goals as goal

pub returns-in-Any : goal.returns-in-Any
returns-in-Any c = sym (c.loop-literal.invariant ∙ failing_end (conditions_of c.args.seen.now) c.args.literals.now c.loop-literal.literal-index c.loop-literal-test.true c.in-Any.is)

pub returns-then-not-holds : goal.returns-then-not-holds
returns-then-not-holds c =
    sym (c.loop-literal.invariant
    ∙ failing_here (conditions_of c.args.seen.now) c.args.literals.now c.loop-literal.literal-index c.loop-literal-test.true c.in_default.not-Any
    (sym c.holds.ensures ∙ c.if-not-holds.true))

pub loop-literal-preserved : goal.loop-literal-preserved
loop-literal-preserved c =
    c.loop-literal.invariant
    ∙ failing_next (conditions_of c.args.seen.now) c.args.literals.now c.loop-literal.literal-index c.loop-literal-test.true c.in_default.not-Any
    (sym c.if-not-holds.ensures)

pub returns : goal.returns
returns c =
    let end : drop c.loop-literal.literal-index c.args.literals.now ≡ [] = grind (arith, common_steps) in
    sym (c.loop-literal.invariant ∙ ap (λ (l : List Literal). find (λ x. not (meets x (conditions_of c.args.seen.now))) (before_any l)) end)
