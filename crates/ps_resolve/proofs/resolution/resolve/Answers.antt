use Rattle.std.proofs.Common.{map, sym, ap, ◌∙◌}
use Rattle.ps_parser.specs.SourceView.{source_tree}
use Rattle.ps_parser.specs.StatementView.{statement_tree}
use Rattle.ps_names.specs.Offences.{refused}
use Rattle.ps_resolve.proofs.Building.{none_refused, offences_are}
use Rattle.ps_resolve.proofs.resolution.resolve.Goals as goal

pub returns-in-Some : goal.returns-in-Some
returns-in-Some c =
    ap refused
    (sym (offences_are c.args.source.now (source_tree c.source.inside) c.deref.result.now c.in_ok-names.names.items c.as_slice.result.now (map statement_tree c.as_slice-2.result.now)
    c.deref.ensures.value c.in_ok-names.ensures c.as_slice.ensures c.as_slice-2.ensures c.source.view_is))
    ∙ sym c.in_ok-table.ensures.found ∙ c.in-Some.is

pub build-requires-clause-unbroken : goal.build-requires-clause-unbroken
build-requires-clause-unbroken c =
    none_refused c.args.source.now
    (sym c.in-None.is ∙ c.in_ok-table.ensures.found
    ∙ ap refused
    (offences_are c.args.source.now (source_tree c.source.inside) c.deref.result.now c.in_ok-names.names.items c.as_slice.result.now (map statement_tree c.as_slice-2.result.now)
    c.deref.ensures.value c.in_ok-names.ensures c.as_slice.ensures c.as_slice-2.ensures c.source.view_is))

pub returns : goal.returns
returns c = record {
  unbroken =
      none_refused c.args.source.now
      (sym c.in-None.is ∙ c.in_ok-table.ensures.found
      ∙ ap refused
      (offences_are c.args.source.now (source_tree c.source.inside) c.deref.result.now c.in_ok-names.names.items c.as_slice.result.now (map statement_tree c.as_slice-2.result.now)
      c.deref.ensures.value c.in_ok-names.ensures c.as_slice.ensures c.as_slice-2.ensures c.source.view_is));
  is = c.in_ok-build-in-None.ensures;
}
