use Rattle.std.proofs.Common.{◌∙◌, ◌++◌, [], ◌∷◌, map, get_or, take, sym, ap}
use Rattle.std.proofs.lemmas.List.{map-append, take_all, take_more}
use Rattle.ps_bench_judge.specs.Moments.{moment_of}
use Rattle.ps_bench_judge.specs.Named.{value_in}
use Rattle.ps_bench_names.specs.declared.name.Name.TheVariants.{Signal}
use Rattle.ps_bench_report.proofs.recording.values_in.Goals as goal

pub loop-name-preserved : goal.loop-name-preserved
loop-name-preserved c =
    let names = c.args.names.now in
    let k = c.loop-name.name-index in
    let name = get_or names k (Signal 0) in
    let value = value_in c.args.app.now (moment_of c.args.seen.now) in
    c.in_ok-push.ensures.items ∙ (λ i. c.loop-name.invariant i ++ c.value_of.ensures i ∷ [])
    ∙ sym (ap (map value) (take_more names k (Signal 0) c.loop-name-test.true) ∙ map-append value (take k names) (name ∷ []))

pub loop-name-init : goal.loop-name-init
loop-name-init c = c.new-values.ensures.items

pub returns : goal.returns
returns c =
    c.loop-name.invariant
    ∙ ap (map (value_in c.args.app.now (moment_of c.args.seen.now))) (take_all c.loop-name.name-index c.args.names.now c.loop-name-test.false)
