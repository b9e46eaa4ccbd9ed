use Rattle.std.proofs.Common.{◌≡◌, ◌∙◌, ◌+◌, ◌++◌, [], ap, drop, arith}
use Rattle.std.specs.Prelude.{flat_map, slice_index_or}
use Rattle.std.proofs.lemmas.Grind.{common_steps}
use Rattle.ps_ways.specs.Stepping.{conditions_of}
use Rattle.ps_ways.specs.declared.way.Literal.TheVariants.{Any}
use Rattle.ps_why.specs.Guards.{before_any}
use Rattle.ps_why.specs.Reasons.{literal_is}
use Rattle.ps_why.proofs.Guarding.{before_next, literal_at, none_before}
use Rattle.ps_why.proofs.Listing.{told_end, told_next}
use Rattle.ps_why.proofs.guards.tell_literals.Goals as goal

pub returns-in-Any : goal.returns-in-Any
returns-in-Any c =
    let ls = c.args.literals.now in
    let i = c.loop-literal.literal-index in
    told_end (literal_is c.args.step (conditions_of c.args.seen.now)) (before_any (drop i ls)) c.loop-literal.facts.items
    (c.args.facts.now.items ++ flat_map (literal_is c.args.step (conditions_of c.args.seen.now)) (before_any c.args.literals.now))
    (none_before ls i c.loop-literal-test.true c.in-Any.is) c.loop-literal.invariant

pub loop-literal-preserved : goal.loop-literal-preserved
loop-literal-preserved c =
    let ls = c.args.literals.now in
    let i = c.loop-literal.literal-index in
    let l = slice_index_or ls i Any in
    told_next (literal_is c.args.step (conditions_of c.args.seen.now)) l (before_any (drop i ls)) (before_any (drop (i + 1) ls)) c.loop-literal.facts.items
    c.tell_literal.new.facts.items
    (c.args.facts.now.items ++ flat_map (literal_is c.args.step (conditions_of c.args.seen.now)) (before_any c.args.literals.now))
    (ap before_any (literal_at ls i c.loop-literal-test.true) ∙ before_next l (drop (i + 1) ls) c.in_default.not-Any)
    c.loop-literal.invariant c.in_ok-tell_literal.ensures

pub returns : goal.returns
returns c =
    let ls = c.args.literals.now in
    let i = c.loop-literal.literal-index in
    let end : drop i ls ≡ [] = grind (arith, common_steps) in
    told_end (literal_is c.args.step (conditions_of c.args.seen.now)) (before_any (drop i ls)) c.loop-literal.facts.items
    (c.args.facts.now.items ++ flat_map (literal_is c.args.step (conditions_of c.args.seen.now)) (before_any c.args.literals.now))
    (ap before_any end) c.loop-literal.invariant
