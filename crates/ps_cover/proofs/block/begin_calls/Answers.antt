use Rattle.std.proofs.Common.{◌<◌, ◌+◌, length, set, subst, sym, arith}
use Rattle.std.specs.Prelude.{slice_index_or}
use Rattle.std.proofs.lemmas.Option.{slice_get-get_or}
use Rattle.ps_cover.specs.Covers.{idle_call}
use Rattle.ps_cover.specs.declared.block.Called.{Called}
use Rattle.ps_cover.proofs.Calling.{idle_calls, no_call}
use Rattle.ps_cover.proofs.Listed.{Turned, turn, turned}
use Rattle.ps_cover.proofs.block.begin_calls.Goals as goal

pub loop-k-preserved : goal.loop-k-preserved
loop-k-preserved c =
    let cs = c.loop-k.calls in
    let k = c.loop-k.k in
    let here = slice_index_or cs k no_call in
    let within : k < length cs = omega (arith, c.loop-k-test.true, c.loop-k.auto.calls) in
    subst (λ (x : Called). Turned idle_call c.args.calls.now (set cs k x) (k + 1)) (sym c.idle.ensures)
    (turn idle_call c.args.calls.now cs k c.loop-k.invariant here (slice_get-get_or cs k no_call within) within)

pub returns-clause-kept : goal.returns-clause-kept
returns-clause-kept c =
    idle_calls c.args._app.now c.args.calls.now c.loop-k.calls c.requires c.loop-k.auto.calls
    (turned idle_call c.args.calls.now c.loop-k.calls c.loop-k.k c.loop-k.invariant
    (omega (arith, c.loop-k-test.false, c.loop-k.auto.calls, c.loop-k.auto.k-end)))

pub returns-clause-anew : goal.returns-clause-anew
returns-clause-anew c =
    turned idle_call c.args.calls.now c.loop-k.calls c.loop-k.k c.loop-k.invariant
    (omega (arith, c.loop-k-test.false, c.loop-k.auto.calls, c.loop-k.auto.k-end))
