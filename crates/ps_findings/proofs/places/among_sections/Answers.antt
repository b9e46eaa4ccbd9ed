use Rattle.std.proofs.Common.{List, ap, arith, sym, ◌∙◌}
use Rattle.ps_parser.specs.declared.section.Declaration.{Declaration}
use Rattle.ps_parser.specs.declared.section.Section.{Section}
use Rattle.ps_findings.specs.Places.{declared_at, names_in}
use Rattle.ps_findings.proofs.Declared.{part_has, part_has_none}
use Rattle.ps_findings.proofs.places.among_sections.Goals as goal

pub returns-then-is_some : goal.returns-then-is_some
returns-then-is_some c =
    part_has c.args.word.now (λ (x : Section). names_in x.declarations) c.args.sections.now c.loop-section.section-index c.section-item.result c.among_declarations-place.result (omega arith) c.section-item.is
    (c.among_declarations-place.ensures ∙ ap (λ (ds : List Declaration). declared_at c.args.word.now (names_in ds)) c.as_slice.ensures) (sym c.is_some.ensures ∙ c.if-is_some.true) c.loop-section.invariant

pub loop-section-preserved : goal.loop-section-preserved
loop-section-preserved c =
    part_has_none c.args.word.now (λ (x : Section). names_in x.declarations) c.args.sections.now c.loop-section.section-index c.section-item.result c.among_declarations-place.result (omega arith) c.section-item.is
    (c.among_declarations-place.ensures ∙ ap (λ (ds : List Declaration). declared_at c.args.word.now (names_in ds)) c.as_slice.ensures) (sym c.is_some.ensures ∙ c.if-is_some.false) c.loop-section.invariant
