use Rattle.std.proofs.Common.{List, ap, arith, sym, ◌∙◌}
use Rattle.ps_parser.specs.declared.name.Name.{Name}
use Rattle.ps_parser.specs.declared.section.Declaration.{Declaration}
use Rattle.ps_findings.specs.Places.{declared_at}
use Rattle.ps_findings.proofs.Declared.{part_has, part_has_none}
use Rattle.ps_findings.proofs.places.among_declarations.Goals as goal

pub returns-then-is_some : goal.returns-then-is_some
returns-then-is_some c =
    part_has c.args.word.now (λ (x : Declaration). x.names) c.args.declarations.now c.loop-declaration.declaration-index c.declaration-item.result c.among_names-place.result (omega arith) c.declaration-item.is
    (c.among_names-place.ensures ∙ ap (λ (ns : List Name). declared_at c.args.word.now ns) c.as_slice.ensures) (sym c.is_some.ensures ∙ c.if-is_some.true) c.loop-declaration.invariant

pub loop-declaration-preserved : goal.loop-declaration-preserved
loop-declaration-preserved c =
    part_has_none c.args.word.now (λ (x : Declaration). x.names) c.args.declarations.now c.loop-declaration.declaration-index c.declaration-item.result c.among_names-place.result (omega arith) c.declaration-item.is
    (c.among_names-place.ensures ∙ ap (λ (ns : List Name). declared_at c.args.word.now ns) c.as_slice.ensures) (sym c.is_some.ensures ∙ c.if-is_some.false) c.loop-declaration.invariant
