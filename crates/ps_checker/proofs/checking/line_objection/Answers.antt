use Rattle.std.proofs.Common.{arith, ap, ◌∙◌, sym, ◌≡◌, ◌<◌, subst, length}
use Rattle.std.specs.List.{list_all}
use Rattle.std.proofs.lemmas.Option.{get_or_from_slice_get}
use Rattle.ps_model.specs.Nodes.{app_nodes}
use Rattle.ps_model.proofs.Once.{element_at}
use Rattle.ps_checker.specs.Derives.{IsInstance, is_earlier}
use Rattle.ps_checker.specs.Objections.{LineBreaks}
use Rattle.ps_base.specs.declared.failing.Rule.TheVariants.{O3}
use Rattle.ps_checker.proofs.Left.{earlier_more}
use Rattle.ps_checker.proofs.checking.line_objection.Goals as goal

pub rule_fits-requires-clause-earlier : goal.rule_fits-requires-clause-earlier
rule_fits-requires-clause-earlier c =
    earlier_more c.args.i (length c.args.lines.now) (omega arith) c.index-lines-i.result.premises
    (ap (list_all (is_earlier c.args.i)) (sym c.as_slice.ensures) ∙ sym c.are_earlier.ensures ∙ c.if-not-are_earlier.false)

pub returns-then-not-rule_fits-clause-some : goal.returns-then-not-rule_fits-clause-some
returns-then-not-rule_fits-clause-some c = λ l at.
    let same : c.index-lines-i.result ≡ l = c.index-lines-i.is ∙ get_or_from_slice_get c.args.lines.now c.args.i l c.index-lines-i.result at in
    let inside : c.index-lines-i.result.node < length (app_nodes c.args.app.now) = omega arith in
    let e = element_at (app_nodes c.args.app.now) c.index-lines-i.result.node inside in
    subst (λ x. LineBreaks c.args.app.now c.args.lines.now c.args.i x O3) same (
      ap (list_all (is_earlier c.args.i)) (sym c.as_slice.ensures) ∙ sym c.are_earlier.ensures ∙ c.if-not-are_earlier.false,
      (e.0, e.1, sym (c.rule_fits.ensures e.0 e.1) ∙ c.if-not-rule_fits.true),
    )

pub returns-clause-none : goal.returns-clause-none
returns-clause-none c = λ l at.
    let same : c.index-lines-i.result ≡ l = c.index-lines-i.is ∙ get_or_from_slice_get c.args.lines.now c.args.i l c.index-lines-i.result at in
    let inside : c.index-lines-i.result.node < length (app_nodes c.args.app.now) = omega arith in
    let e = element_at (app_nodes c.args.app.now) c.index-lines-i.result.node inside in
    subst (IsInstance c.args.app.now c.args.lines.now c.args.i) same
    (record {
      node = e.0;
      exists = e.1;
      earlier = ap (list_all (is_earlier c.args.i)) (sym c.as_slice.ensures) ∙ sym c.are_earlier.ensures ∙ c.if-not-are_earlier.false;
      rule = sym (c.rule_fits.ensures e.0 e.1) ∙ c.if-not-rule_fits.false;
    })
