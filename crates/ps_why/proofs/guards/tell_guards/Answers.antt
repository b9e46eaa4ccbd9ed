use Rattle.std.proofs.Common.{◌≡◌, ◌∙◌, ◌+◌, ◌++◌, [], List, ap, arith, drop, sym}
use Rattle.std.specs.Prelude.{slice_index_or}
use Rattle.std.proofs.lemmas.Grind.{common_steps}
use Rattle.ps_ways.specs.Stepping.{conditions_of}
use Rattle.ps_ways.specs.Tables.{ways_of}
use Rattle.ps_ways.specs.declared.way.Way.{Way}
use Rattle.ps_why.proofs.Guarded.{decides_so, other_next, passed_next, taken_next, told_none, told_of}
use Rattle.ps_why.proofs.Guarding.{no_way, way_at}
use Rattle.ps_why.proofs.Taking.{next_by}
use Rattle.ps_why.proofs.guards.tell_guards.Goals as goal

pub loop-way-preserved-then-way-state : goal.loop-way-preserved-then-way-state
loop-way-preserved-then-way-state c =
    let ws = c.ways-way-items.result.now in
    let i = c.loop-way.way-index in
    let cs = conditions_of c.args.seen.now in
    let w = slice_index_or ws i no_way in
    let rest = drop (i + 1) ws in
    let next = other_next c.args.step cs c.args.state w rest (drop i ws) (way_at ws i c.loop-way-test.true) c.if-way-state.true in
    record {
      told = next.0 c.loop-way.facts.items (c.args.facts.now.items ++ told_of c.args.step cs c.args.state ws) c.loop-way.invariant.told;
      next = c.loop-way.invariant.next ∙ next.1;
    }

pub loop-way-preserved : goal.loop-way-preserved
loop-way-preserved c =
    let ws = c.ways-way-items.result.now in
    let i = c.loop-way.way-index in
    let cs = conditions_of c.args.seen.now in
    let w = slice_index_or ws i no_way in
    let next = passed_next c.args.step cs c.args.state w (drop (i + 1) ws) (drop i ws) (way_at ws i c.loop-way-test.true) c.if-way-state.false c.in-Some.literal (sym c.in-Some.ensures) in
    record {
      told = next.0 c.loop-way.facts.items c.tell_literal.new.facts.items (c.args.facts.now.items ++ told_of c.args.step cs c.args.state ws) c.loop-way.invariant.told
          c.in_ok-tell_literal-in-Some.ensures;
      next = c.loop-way.invariant.next ∙ next.1;
    }

pub returns-in-None-clause-told : goal.returns-in-None-clause-told
returns-in-None-clause-told c =
    let ws = c.ways-way-items.result.now in
    let i = c.loop-way.way-index in
    let k = c.args.step in
    let cs = conditions_of c.args.seen.now in
    let state = c.args.state in
    let w = slice_index_or ws i no_way in
    let next = taken_next k cs state w (drop (i + 1) ws) (drop i ws) (way_at ws i c.loop-way-test.true) c.if-way-state.false (sym c.in-None.ensures) in
    next.0 c.loop-way.facts.items c.tell_literals.new.facts.items (c.args.facts.now.items ++ told_of k cs state ws) c.loop-way.invariant.told c.in_ok-tell_literals-in-None.ensures
    ∙ ap (λ l. c.args.facts.now.items ++ told_of k cs state l) c.ways-way-items.ensures

pub returns-in-None-clause-decides : goal.returns-in-None-clause-decides
returns-in-None-clause-decides c =
    let ws = c.ways-way-items.result.now in
    let i = c.loop-way.way-index in
    let k = c.args.step in
    let cs = conditions_of c.args.seen.now in
    let state = c.args.state in
    let w = slice_index_or ws i no_way in
    let old = c.args.facts.now.items in
    let new = c.tell_literals.new.facts.items in
    let next = taken_next k cs state w (drop (i + 1) ws) (drop i ws) (way_at ws i c.loop-way-test.true) c.if-way-state.false (sym c.in-None.ensures) in
    decides_so k cs state w.next ws (ways_of c.args.kind) old new c.ways-way-items.ensures
    (next.0 c.loop-way.facts.items new (old ++ told_of k cs state ws) c.loop-way.invariant.told c.in_ok-tell_literals-in-None.ensures)
    (c.loop-way.invariant.next ∙ next.1)

pub returns-clause-told : goal.returns-clause-told
returns-clause-told c =
    let ws = c.ways-way-items.result.now in
    let k = c.args.step in
    let cs = conditions_of c.args.seen.now in
    let old = c.args.facts.now.items in
    let end : drop c.loop-way.way-index ws ≡ [] = grind (arith, common_steps) in
    told_none k cs c.args.state (drop c.loop-way.way-index ws) end c.loop-way.facts.items (old ++ told_of k cs c.args.state ws) c.loop-way.invariant.told
    ∙ ap (λ l. old ++ told_of k cs c.args.state l) c.ways-way-items.ensures

pub returns-clause-decides : goal.returns-clause-decides
returns-clause-decides c =
    let ws = c.ways-way-items.result.now in
    let k = c.args.step in
    let cs = conditions_of c.args.seen.now in
    let state = c.args.state in
    let old = c.args.facts.now.items in
    let end : drop c.loop-way.way-index ws ≡ [] = grind (arith, common_steps) in
    decides_so k cs state state ws (ways_of c.args.kind) old c.loop-way.facts.items c.ways-way-items.ensures
    (told_none k cs state (drop c.loop-way.way-index ws) end c.loop-way.facts.items (old ++ told_of k cs state ws) c.loop-way.invariant.told)
    (c.loop-way.invariant.next ∙ ap (λ (l : List Way). next_by state l cs) end)
