use Rattle.std.proofs.Common.{◌<◌, ◌+◌, length, set, subst, sym, arith}
use Rattle.std.specs.Prelude.{slice_index_or}
use Rattle.std.proofs.lemmas.Option.{slice_get-get_or}
use Rattle.ps_bench_why.specs.declared.walker.Since.{Since}
use Rattle.ps_bench_why.proofs.Noting.{HaveNoted, all_noted, none_noted, note_next}
use Rattle.ps_why.proofs.Kept.{none_kept}
use Rattle.ps_bench_why.proofs.Taking.{no_since}
use Rattle.ps_bench_why.proofs.walker.note_all.Goals as goal

pub loop-i-init : goal.loop-i-init
loop-i-init c = none_noted c.args.kept.now c.args.now c.args.first c.args.since.now

pub loop-i-preserved : goal.loop-i-preserved
loop-i-preserved c =
    let kept = c.args.kept.now in
    let is = c.loop-i.since in
    let i = c.loop-i.i in
    let within : i < length is = omega (arith, c.loop-i-test.true, c.loop-i.auto.since) in
    let there : i < length kept = omega (arith, within, c.loop-i.auto.since, c.requires) in
    subst (λ (x : Since). HaveNoted kept c.args.now c.args.first c.args.since.now (set is i x) (i + 1)) (sym c.noted.ensures)
    (note_next kept c.args.now c.args.first c.args.since.now is i c.loop-i.invariant within (slice_index_or kept i none_kept)
    (slice_get-get_or kept i none_kept there) (slice_index_or is i no_since) (slice_get-get_or is i no_since within))

pub returns-clause-each : goal.returns-clause-each
returns-clause-each c =
    all_noted c.args.kept.now c.args.now c.args.first c.args.since.now c.loop-i.since c.loop-i.i c.loop-i.invariant
    (omega (arith, c.loop-i-test.false, c.loop-i.auto.since, c.loop-i.auto.i-end))
