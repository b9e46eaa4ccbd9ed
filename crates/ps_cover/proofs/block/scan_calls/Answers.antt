use Rattle.std.proofs.Common.{◌<◌, ◌+◌, ◌≡◌, ◌∙◌, ap, length, set, slice_get, subst, sym, arith}
use Rattle.std.specs.Prelude.{slice_index_or}
use Rattle.std.proofs.lemmas.Option.{slice_get-get_or}
use Rattle.ps_cover.specs.Blocks.{called_in}
use Rattle.ps_cover.specs.Covering.{IsCallKept}
use Rattle.ps_cover.specs.declared.block.Called.{Called}
use Rattle.ps_cover.proofs.Calling.{kept_at, no_call, still_calls}
use Rattle.ps_cover.proofs.Listed.{Turned, turn, turned}
use Rattle.ps_cover.proofs.block.scan_calls.Goals as goal

pub scanned-requires : goal.scanned-requires
scanned-requires c =
    (kept_at c.args.app.now c.loop-k.calls c.loop-k.invariant.kept c.loop-k.k no_call (omega (arith, c.loop-k-test.true, c.loop-k.auto.calls))).1

pub loop-k-preserved : goal.loop-k-preserved
loop-k-preserved c =
    let net = c.args.app.now in
    let f = called_in net c.args.signals.now c.args.passed in
    let cs = c.loop-k.calls in
    let k = c.loop-k.k in
    let here = slice_index_or cs k no_call in
    let within : k < length cs = omega (arith, c.loop-k-test.true, c.loop-k.auto.calls) in
    let number : here.step ≡ k = (kept_at net cs c.loop-k.invariant.kept k no_call within).0 in
    record {
      turned = subst (λ (x : Called). Turned f c.args.calls.now (set cs k x) (k + 1)) (sym c.scanned.ensures.scans)
          (turn f c.args.calls.now cs k c.loop-k.invariant.turned here (slice_get-get_or cs k no_call within) within);
      kept = still_calls net cs c.loop-k.invariant.kept k c.scanned.result within
          (ap (λ (x : Called). x.step) c.scanned.ensures.scans ∙ number)
          (subst (λ n. IsCallKept net (slice_get net.steps n) c.scanned.result) number c.scanned.ensures.kept);
    }

pub returns-clause-scans : goal.returns-clause-scans
returns-clause-scans c =
    turned (called_in c.args.app.now c.args.signals.now c.args.passed) c.args.calls.now c.loop-k.calls c.loop-k.k c.loop-k.invariant.turned
    (omega (arith, c.loop-k-test.false, c.loop-k.auto.calls, c.loop-k.auto.k-end))
