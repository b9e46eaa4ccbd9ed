use Rattle.std.proofs.Common.{map, length, sym, ap, ◌∙◌}
use Rattle.std.specs.List.{sum_by}
use Rattle.ps_parser.specs.SourceView.{source_tree}
use Rattle.ps_parser.specs.StatementView.{statement_tree}
use Rattle.ps_parser.specs.Tree.{SourceTree}
use Rattle.ps_derived.specs.declared.interface.Interface.{Interface}
use Rattle.ps_derived.specs.declared.limits.TheConstants.{MOST_FLAT_NAMES, MOST_FLAT_STATEMENTS}
use Rattle.ps_derived.specs.Bodies.{declared_names, inputs}
use Rattle.ps_derived.specs.Limits.{counted_to}
use Rattle.ps_derived.specs.Counting.{declared_weight, statement_weight}
use Rattle.ps_derived.proofs.Counts.{size_is}
use Rattle.ps_derived.proofs.sizes.size_of.Goals as goal

pub returns : goal.returns
returns c = λ before e.
    let t = source_tree c.source.inside in
    let sizes = c.args.blocks.now.sizes.now in
    let declared = ap (λ (i : Interface). i.scope) c.in_ok-interface.ensures ∙ ap (λ (u : SourceTree). declared_names u.sections) (sym c.source.view_is) in
    size_is before t c.args.source.now _ _ _ _ c.source.view_is
    c.in_ok-copy_of.ensures
    (c.counted_to.ensures ∙ ap (counted_to MOST_FLAT_STATEMENTS)
    (c.len.ensures ∙ ap (λ (i : Interface). length i.inputs) c.in_ok-interface.ensures ∙ ap (λ (u : SourceTree). length (inputs (declared_names u.sections))) (sym c.source.view_is)))
    (c.in_ok-count_names.ensures ∙ ap (λ ds. counted_to MOST_FLAT_NAMES (sum_by (declared_weight sizes) ds)) (c.as_slice.ensures ∙ declared)
    ∙ ap (λ s. counted_to MOST_FLAT_NAMES (sum_by (declared_weight s) (declared_names t.sections))) e)
    (c.in_ok-count_statements.ensures ∙ ap (λ ds. counted_to MOST_FLAT_STATEMENTS (sum_by (statement_weight sizes ds) (map statement_tree c.as_slice-2.result.now))) declared
    ∙ ap (λ ss. counted_to MOST_FLAT_STATEMENTS (sum_by (statement_weight sizes (declared_names t.sections)) ss)) c.as_slice-2.ensures
    ∙ ap (λ s. counted_to MOST_FLAT_STATEMENTS (sum_by (statement_weight s (declared_names t.sections)) t.statements)) e)
