use Rattle.std.proofs.Common.{◌≡◌, ◌+◌, subst, sym, arith, length, false}
use Rattle.std.specs.Prelude.{slice_index_or}
use Rattle.std.proofs.lemmas.Option.{slice_get-get_or}
use Rattle.ps_why.specs.declared.fact.Fact.TheVariants.{SignalIs}
use Rattle.ps_why.specs.Entering.{EntersAll}
use Rattle.ps_why.proofs.Told.{enters_next, enters_none}
use Rattle.ps_why.proofs.explaining.tell_all.Goals as goal

pub loop-fact-init : goal.loop-fact-init
loop-fact-init c =
    let old = c.args.facts.now.items in
    subst (EntersAll old old 0 c.args.given.now) (sym c.in_ok-told.ensures.items) (enters_none old c.args.given.now)

pub loop-fact-preserved : goal.loop-fact-preserved
loop-fact-preserved c =
    let old = c.args.facts.now.items in
    let given = c.args.given.now in
    let i = c.loop-fact.fact-index in
    let f = slice_index_or given i (SignalIs 0 false) in
    subst (EntersAll old c.tell.new.facts.items (i + 1) given) (sym c.in_ok-push.ensures.items)
    (enters_next old given c.loop-fact.facts.items c.tell.new.facts.items i c.loop-fact.told.items f c.in_ok-tell.field-0 c.loop-fact.invariant
    (slice_get-get_or given i (SignalIs 0 false) c.loop-fact-test.true) c.in_ok-tell.ensures)

pub returns : goal.returns
returns c =
    let all : c.loop-fact.fact-index ≡ length c.args.given.now = omega (arith, c.loop-fact-test.false, c.loop-fact.auto.fact-index-end) in
    subst (λ n. EntersAll c.args.facts.now.items c.loop-fact.facts.items n c.args.given.now c.loop-fact.told.items) all c.loop-fact.invariant
