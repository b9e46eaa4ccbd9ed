use Rattle.std.proofs.Common.{◌+◌, ◌∙◌, refl, sym, subst, arith}
use Rattle.ps_eqvm.proofs.Chunks.{CountedTo, counted_more, all_counted}
use Rattle.ps_eqvm.proofs.counting.count_instances.Goals as goal

pub loop-i-init : goal.loop-i-init
loop-i-init c = record { done = λ j low. absurd (omega (arith, low)); rest = λ j high. refl }

pub loop-i-preserved : goal.loop-i-preserved
loop-i-preserved c =
    let old = c.args.blocks.now in
    let i = c.loop-i.i in
    subst (λ l. CountedTo c.args.limits.now c.args.now old l (i + 1)) (sym c.count_instance.ensures)
    (counted_more c.args.limits.now c.args.now old c.loop-i.blocks i (omega (arith, c.loop-i.auto.blocks, c.requires, c.loop-i-test.true)) c.loop-i.invariant)

pub returns : goal.returns
returns c =
    all_counted c.args.limits.now c.args.now c.args.blocks.now c.loop-i.blocks c.requires (c.loop-i.auto.blocks ∙ c.requires)
    (λ i low. c.loop-i.invariant.done i (omega (arith, low, c.loop-i-test.false)))
