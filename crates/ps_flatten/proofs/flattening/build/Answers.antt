use Rattle.std.proofs.Common.{sym, ap, subst, ◌∙◌}
use Rattle.std.specs.List.{AllByRecursion}
use Rattle.ps_parser.specs.Tree.{SourceTree}
use Rattle.ps_parser.specs.Whole.{IsSource}
use Rattle.ps_derived.specs.declared.library.Library.{Library}
use Rattle.ps_flatten.specs.Laying.{blocks_seen}
use Rattle.ps_flatten.proofs.Whole.{flat_whole}
use Rattle.ps_flatten.proofs.Making.{program_is}
use Rattle.ps_flatten.proofs.flattening.build.Goals as goal

pub invariant_of-result : goal.invariant_of-result
invariant_of-result c =
    let l = c.args.library.now in
    subst IsSource (sym (program_is l (blocks_seen c.in_ok-blocks.blocks) c.as_slice-2.result.now c.as_slice-3.result.now c.in_ok-name.name c.in_ok-sections.sections c.in_ok-statements.statements (c.as_slice-2.ensures ∙ ap (λ (x : Library). x.blocks) c.library.view_is) (c.as_slice-3.ensures ∙ ap (λ (x : Library). x.program.sections) c.library.view_is) c.in_ok-blocks.ensures c.in_ok-sections.ensures c.in_ok-statements.ensures (c.in_ok-name.ensures ∙ ap (λ (x : Library). x.program.name) c.library.view_is)))
    (flat_whole l c.requires (subst (AllByRecursion IsSource) c.as_slice.ensures c.all_kept.ensures) c.kept.ensures)

pub returns : goal.returns
returns c =
    let l = c.args.library.now in
    program_is l (blocks_seen c.in_ok-blocks.blocks) c.as_slice-2.result.now c.as_slice-3.result.now c.in_ok-name.name c.in_ok-sections.sections c.in_ok-statements.statements (c.as_slice-2.ensures ∙ ap (λ (x : Library). x.blocks) c.library.view_is) (c.as_slice-3.ensures ∙ ap (λ (x : Library). x.program.sections) c.library.view_is) c.in_ok-blocks.ensures c.in_ok-sections.ensures c.in_ok-statements.ensures (c.in_ok-name.ensures ∙ ap (λ (x : Library). x.program.name) c.library.view_is)
