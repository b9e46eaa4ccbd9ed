use Rattle.std.proofs.Common.{map, sym, ap, subst, ◌∙◌}
use Rattle.std.specs.List.{All}
use Rattle.ps_model.specs.Network.{made_of}
use Rattle.ps_parser.specs.Tree.{SourceTree}
use Rattle.ps_names.specs.Stands.{action}
use Rattle.ps_resolve.specs.Spelt.{IsFit}
use Rattle.ps_resolve.proofs.Fit.{entries_fit, name_is_text}
use Rattle.ps_resolve.proofs.Building.{made_is, network_sound}
use Rattle.ps_resolve.proofs.resolution.build.Goals as goal

pub label_of-requires : goal.label_of-requires
label_of-requires c = name_is_text c.source.inside.name.text c.source.invariant.whole.0

pub signals-requires : goal.signals-requires
signals-requires c = subst (All IsFit) (sym c.requires.names) (entries_fit c.args.source.now c.kept.ensures)

pub signals-requires-2 : goal.signals-requires-2
signals-requires-2 c = subst (All IsFit) (sym c.requires.names) (entries_fit c.args.source.now c.kept.ensures)

pub signals-requires-3 : goal.signals-requires-3
signals-requires-3 c = subst (All IsFit) (sym c.requires.names) (entries_fit c.args.source.now c.kept.ensures)

pub instances-requires : goal.instances-requires
instances-requires c = subst (All IsFit) (sym c.requires.names) (entries_fit c.args.source.now c.kept.ensures)

pub of-requires : goal.of-requires
of-requires c =
    network_sound c.args.source.now (made_of c.in_ok-name.name c.in_ok-inputs.inputs c.in_ok-outputs.outputs c.in_ok-locals.locals c.in_ok-instances.instances c.in_ok-steps.steps)
    (made_is c.args.source.now c.args.names.now c.in_ok-name.name c.in_ok-inputs.inputs c.in_ok-outputs.outputs c.in_ok-locals.locals c.in_ok-instances.instances c.in_ok-steps.steps
    c.requires.names (c.in_ok-name.ensures ∙ ap (λ (p : SourceTree). p.name.text) c.source.view_is) c.in_ok-inputs.ensures c.in_ok-outputs.ensures c.in_ok-locals.ensures c.in_ok-instances.ensures
    (c.in_ok-steps.ensures ∙ ap (map (action c.args.names.now)) (c.as_slice.ensures ∙ ap (λ (p : SourceTree). p.statements) c.source.view_is)))
    c.kept.ensures c.requires.unbroken

pub returns : goal.returns
returns c =
    c.of.ensures
    ∙ made_is c.args.source.now c.args.names.now c.in_ok-name.name c.in_ok-inputs.inputs c.in_ok-outputs.outputs c.in_ok-locals.locals c.in_ok-instances.instances c.in_ok-steps.steps
    c.requires.names (c.in_ok-name.ensures ∙ ap (λ (p : SourceTree). p.name.text) c.source.view_is) c.in_ok-inputs.ensures c.in_ok-outputs.ensures c.in_ok-locals.ensures c.in_ok-instances.ensures
    (c.in_ok-steps.ensures ∙ ap (map (action c.args.names.now)) (c.as_slice.ensures ∙ ap (λ (p : SourceTree). p.statements) c.source.view_is))
