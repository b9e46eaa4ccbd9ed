use Rattle.std.proofs.Common.{◌≡◌, ◌∙◌, ◌+◌, ap, subst, sym, arith, length, List, Some, slice_get}
use Rattle.ps_why.specs.Entering.{EntersAll}
use Rattle.ps_why.specs.declared.explaining.Explanation.{Explanation}
use Rattle.ps_why.specs.declared.explaining.Reasons.{Reasons}
use Rattle.ps_why.specs.declared.fact.Fact.{Fact}
use Rattle.ps_why.proofs.Told.{IsToldSoFar, meant_all, right_all, told_first, told_next}
use Rattle.ps_why.specs.Resting.{RestsThere}
use Rattle.ps_why.proofs.Reasoned.{reasons_rest}
use Rattle.ps_why.proofs.explaining.explain.Goals as goal

pub loop-n-init : goal.loop-n-init
loop-n-init c =
    let net = c.args.app.now in
    let x = c.args.scene.now in
    let roots = c.args.roots.now in
    let facts = c.tell_all.new.facts.items in
    let numbers = c.in_ok-tell_all.field-0.facts.items in
    subst (λ (rs : List Reasons). IsToldSoFar net x roots 0 facts rs) (sym c.new-reasons.ensures.items)
    (told_first net x roots facts numbers
    (subst (λ (old : List Fact). EntersAll old facts (length roots) roots numbers) c.new-facts.ensures.items c.in_ok-tell_all.ensures))

pub loop-n-preserved : goal.loop-n-preserved
loop-n-preserved c =
    let net = c.args.app.now in
    let x = c.args.scene.now in
    let roots = c.args.roots.now in
    let n = c.loop-n.n in
    let facts = c.loop-n.facts.items in
    let facts' = c.tell_all-in-loop-n.new.facts.items in
    let reasons = c.loop-n.reasons.items in
    let given = c.in_ok-given.given.items in
    let r = c.in_ok-tell_all-2.field-0 in
    let f = c.fact_at-fact.result in
    let at : slice_get facts n ≡ Some f = ap (λ (xs : List Fact). slice_get xs n) (sym c.as_slice.ensures.value) ∙ c.fact_at-fact.ensures in
    subst (λ (rs : List Reasons). IsToldSoFar net x roots (n + 1) facts' rs) (sym c.in_ok-push.ensures.items)
    (told_next net x roots n facts facts' reasons given r f c.loop-n.invariant at
    (subst (RestsThere net x f) (sym c.in_ok-given.ensures) (reasons_rest net c.sound.ensures x c.requires f)) c.in_ok-given.ensures
    (subst (λ (g : List Fact). EntersAll facts facts' (length g) g r.facts.items) c.as_slice-in-loop-n.ensures.value c.in_ok-tell_all-2.ensures))

pub returns-then-n-len-clause-reasons : goal.returns-then-n-len-clause-reasons
returns-then-n-len-clause-reasons c =
    let e : Explanation = record { facts = c.loop-n.facts; reasons = c.loop-n.reasons } in
    right_all c.args.app.now c.args.scene.now c.args.roots.now c.loop-n.n e c.loop-n.invariant (omega (arith, c.if-n-len.true, c.len.ensures))

pub returns-then-n-len-clause-meant : goal.returns-then-n-len-clause-meant
returns-then-n-len-clause-meant c =
    let e : Explanation = record { facts = c.loop-n.facts; reasons = c.loop-n.reasons } in
    meant_all c.args.app.now c.args.scene.now c.args.roots.now c.loop-n.n e c.loop-n.invariant (omega (arith, c.if-n-len.true, c.len.ensures))
