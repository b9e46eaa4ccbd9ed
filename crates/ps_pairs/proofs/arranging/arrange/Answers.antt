use Rattle.std.proofs.Common.{List, sym, ap, subst, ◌∙◌}
use Rattle.ps_parser.specs.Tree.{SourceTree}
use Rattle.ps_parser.specs.Whole.{IsSource}
use Rattle.ps_parser.specs.declared.section.Section.{Section}
use Rattle.ps_pairs.specs.Arranging.{arranged_sections}
use Rattle.ps_pairs.proofs.Taking.{arranged_kept}
use Rattle.ps_pairs.proofs.arranging.arrange.Goals as goal

pub invariant_of-source : goal.invariant_of-source
invariant_of-source c =
    let i = c.source.inside in
    let tree : SourceTree = record { name = i.name; sections = i.sections; statements = i.statements } in
    subst (λ (ss : List Section). IsSource (record { name = i.name; sections = ss; statements = i.statements }))
    (sym (c.in_ok-sections.ensures ∙ ap (arranged_sections c.args.app.now) c.as_slice.ensures)) (arranged_kept c.args.app.now tree c.source.invariant)
