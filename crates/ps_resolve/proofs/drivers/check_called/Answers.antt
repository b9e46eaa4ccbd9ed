use Rattle.std.proofs.Common.{ap, ◌∙◌, is_some}
use Rattle.ps_names.proofs.NamesAgain.{flat_noted}
use Rattle.ps_resolve.proofs.drivers.check_called.Goals as goal
use Rattle.ps_names.specs.Offences.{noted}
use Rattle.ps_names.specs.Rules.{uncalled, uncalled_as}

pub loop-e-preserved : goal.loop-e-preserved
loop-e-preserved c = λ ns has.
    let e = c.e-item.result in
    flat_noted (uncalled ns) c.args.found c.loop-e.found c.note_uncalled-found.result c.args.entries.now c.loop-e.e-index c.e-item.result c.loop-e-test.true
    (c.loop-e.invariant ns has)
    (c.note_uncalled-found.ensures ∙ ap (λ b. noted c.loop-e.found (uncalled_as e.sort b e.name)) (c.is_some-has_call.ensures ∙ ap is_some c.in_ok-place_of.ensures ∙ has e.name.text)
    ∙ ap (λ x. noted c.loop-e.found (uncalled ns x)) c.e-item.is)
