use Rattle.std.proofs.Common.{ap, ◌∙◌, is_some}
use Rattle.std.specs.List.{list_any}
use Rattle.ps_names.specs.Names.{same}
use Rattle.ps_names.specs.Offences.{noted}
use Rattle.ps_names.specs.Rules.{undriven, undriven_as}
use Rattle.ps_names.proofs.NamesAgain.{flat_noted}
use Rattle.ps_resolve.proofs.drivers.check_driven.Goals as goal

pub loop-e-preserved : goal.loop-e-preserved
loop-e-preserved c = λ ts ns has_targets has_reads.
    let e = c.e-item.result in
    flat_noted (undriven ts ns) c.args.found c.loop-e.found c.note_undriven-found.result c.args.entries.now c.loop-e.e-index c.e-item.result c.loop-e-test.true
    (c.loop-e.invariant ts ns has_targets has_reads)
    (c.note_undriven-found.ensures
    ∙ ap (λ b. noted c.loop-e.found (undriven_as e.sort b c.is_some-is_read.result e.name)) (c.is_some-is_assigned.ensures ∙ ap is_some c.in_ok-place_of.ensures ∙ has_targets e.name.text)
    ∙ ap (λ b. noted c.loop-e.found (undriven_as e.sort (list_any (same e.name) ts) b e.name)) (c.is_some-is_read.ensures ∙ ap is_some c.in_ok-place_of-2.ensures ∙ has_reads e.name.text)
    ∙ ap (λ x. noted c.loop-e.found (undriven ts ns x)) c.e-item.is)
