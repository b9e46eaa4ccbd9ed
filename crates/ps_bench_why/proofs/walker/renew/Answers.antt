use Rattle.std.proofs.Common.{◌<◌, ◌+◌, length, set, subst, sym, arith}
use Rattle.std.specs.Prelude.{slice_index_or}
use Rattle.std.proofs.lemmas.Option.{slice_get-get_or}
use Rattle.ps_cover.proofs.Listed.{Turned, turn, turned}
use Rattle.ps_why.specs.declared.keeping.Stepped.{Stepped}
use Rattle.ps_bench_why.specs.Walking.{renewed}
use Rattle.ps_why.proofs.Kept.{none_kept}
use Rattle.ps_bench_why.proofs.walker.renew.Goals as goal

pub loop-i-preserved : goal.loop-i-preserved
loop-i-preserved c =
    let kept = c.loop-i.kept in
    let i = c.loop-i.i in
    let within : i < length kept = omega (arith, c.loop-i-test.true, c.loop-i.auto.kept) in
    subst (λ (x : Stepped). Turned renewed c.args.kept.now (set kept i x) (i + 1)) (sym c.renewed.ensures)
    (turn renewed c.args.kept.now kept i c.loop-i.invariant (slice_index_or kept i none_kept) (slice_get-get_or kept i none_kept within) within)

pub returns-clause-anew : goal.returns-clause-anew
returns-clause-anew c =
    turned renewed c.args.kept.now c.loop-i.kept c.loop-i.i c.loop-i.invariant
    (omega (arith, c.loop-i-test.false, c.loop-i.auto.kept, c.loop-i.auto.i-end))
