use Rattle.std.proofs.Common.{map, ap, ◌∙◌}
use Rattle.std.specs.List.{flat_map}
use Rattle.ps_parser.specs.SourceView.{source_tree}
use Rattle.ps_parser.specs.StatementView.{statement_tree}
use Rattle.ps_names.specs.Offences.{noted}
use Rattle.ps_derived.specs.Bodies.{declared_names}
use Rattle.ps_offences.specs.BlockRules.{typed_wrongly}
use Rattle.ps_offences.proofs.Breaking.{ok_then, body_noted}
use Rattle.ps_offences.proofs.rules.check_body.Goals as goal

pub returns : goal.returns
returns c =
    ok_then _ _ c.check_counts.result
    (λ r last ns has.
    body_noted ns c.args.before.now c.args.heads (source_tree c.source.inside) c.args.source.now c.in_ok-scope.scope (map statement_tree c.as_slice-statements.result.now)
    c.args.found c.in_ok-typed.typed c.in_ok-used.used c.in_ok-called.called r c.source.view_is (c.in_ok-scope.ensures ∙ ap declared_names c.as_slice.ensures) c.as_slice-statements.ensures
    (c.in_ok-typed.ensures ns has ∙ ap (λ ds. noted c.args.found (flat_map (typed_wrongly c.args.heads ns c.args.before.now) ds)) c.as_slice-2.ensures)
    c.in_ok-used.ensures c.in_ok-called.ensures last)
    c.check_counts.ensures
