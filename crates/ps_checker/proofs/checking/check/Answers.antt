use Rattle.std.proofs.Common.{arith, ap, ◌∙◌, sym, refl, ◌≡◌, ◌<◌, ◌+◌, ℕ, List, Some, subst, length, get_or, []}
use Rattle.std.specs.Prelude.{slice_get}
use Rattle.std.specs.List.{list_all}
use Rattle.std.proofs.lemmas.Option.{slice_get_within, slice_get-get_or}
use Rattle.std.proofs.lemmas.List.Elements.{All-from_get_or}
use Rattle.ps_base.specs.declared.limits.TheConstants.{MOST_NODES}
use Rattle.ps_model.specs.Nodes.{app_nodes}
use Rattle.ps_flow.specs.declared.certificate.LineRule.TheVariants.{Src}
use Rattle.ps_flow.specs.Derivation.{line}
use Rattle.ps_model.specs.Network.{Network}
use Rattle.ps_model.specs.Obligations.{obligations}
use Rattle.ps_model.proofs.Once.{element_at}
use Rattle.ps_flow.specs.declared.certificate.CertLine.{CertLine}
use Rattle.ps_base.specs.declared.failing.Rule.{Rule}
use Rattle.ps_base.specs.declared.failing.Rule.TheVariants.{O1, O2, O3}
use Rattle.ps_checker.specs.Derives.{has_line}
use Rattle.ps_checker.specs.Objections.{Objects, LineBreaks, EachUpTo}
use Rattle.ps_checker.proofs.Sound.{derives_accepted}
use Rattle.ps_checker.proofs.Lawful.{keeps_skeletons, not_derived}
use Rattle.ps_checker.proofs.checking.check.Goals as goal

line_objects : (net : Network) (lines : List CertLine) (i : ℕ) (l : CertLine) (rule : Rule) → EachUpTo net lines i → slice_get lines i ≡ Some l →
    LineBreaks net lines i l rule → Objects net lines (i + 1) rule
line_objects net lines i l O1 each at h = (i, l, refl, each, at, h)
line_objects net lines i l O2 each at h = (i, l, refl, each, at, h)
line_objects net lines i l O3 each at h = (i, l, refl, each, at, h)
line_objects net lines i l _ each at h = absurd h

pub returns-in-Some-clause-objects : goal.returns-in-Some-clause-objects
returns-in-Some-clause-objects c =
    let e = element_at c.lines-lines.result.now c.loop-i.i c.loop-i-test.true in
    line_objects c.args.app.now c.args.cert.now c.loop-i.i e.0 c.in-Some.rule c.loop-i.invariant (ap (λ ls. slice_get ls c.loop-i.i) (sym c.lines-lines.ensures) ∙ e.1)
    (subst (λ ls. LineBreaks c.args.app.now ls c.loop-i.i e.0 c.in-Some.rule) c.lines-lines.ensures (c.in-Some.ensures.some e.0 e.1))

-- every line that was tried speaks of a node of the application
pub is_covered-requires : goal.is_covered-requires
is_covered-requires c =
    All-from_get_or (λ (l : CertLine). l.node < MOST_NODES) c.lines-lines.result.now (line 0 Src []) (λ i inside.
    let here = slice_get-get_or c.lines-lines.result.now i (line 0 Src []) inside in
    let instance = c.loop-i.invariant i (omega arith) (get_or c.lines-lines.result.now i (line 0 Src [])) (ap (λ ls. slice_get ls i) (sym c.lines-lines.ensures) ∙ here) in
    let known = slice_get_within (app_nodes c.args.app.now) (get_or c.lines-lines.result.now i (line 0 Src [])).node instance.node instance.exists in
    let few = c.sound.ensures.few_nodes in
    omega arith
    )

pub returns-clause-derives : goal.returns-clause-derives
returns-clause-derives c = record {
  each = λ i l at. c.loop-i.invariant i (let h = slice_get_within c.args.cert.now i l at in omega (arith, ap length c.lines-lines.ensures)) l at;
  literals = c.has_misfit.ensures.fits c.if-has_misfit.false;
  covered = ap (λ ls. list_all (has_line ls) (obligations c.args.app.now)) (sym c.lines-lines.ensures) ∙ sym c.is_covered.ensures ∙ c.if-not-is_covered.false;
}

pub returns-clause-accepted : goal.returns-clause-accepted
returns-clause-accepted c = derives_accepted c.args.app.now c.args.cert.now (record {
  each = λ i l at. c.loop-i.invariant i (let h = slice_get_within c.args.cert.now i l at in omega (arith, ap length c.lines-lines.ensures)) l at;
  literals = c.has_misfit.ensures.fits c.if-has_misfit.false;
  covered = ap (λ ls. list_all (has_line ls) (obligations c.args.app.now)) (sym c.lines-lines.ensures) ∙ sym c.is_covered.ensures ∙ c.if-not-is_covered.false;
})

pub returns-clause-skeletons : goal.returns-clause-skeletons
returns-clause-skeletons c = keeps_skeletons c.args.app.now (derives_accepted c.args.app.now c.args.cert.now (record {
  each = λ i l at. c.loop-i.invariant i (let h = slice_get_within c.args.cert.now i l at in omega (arith, ap length c.lines-lines.ensures)) l at;
  literals = c.has_misfit.ensures.fits c.if-has_misfit.false;
  covered = ap (λ ls. list_all (has_line ls) (obligations c.args.app.now)) (sym c.lines-lines.ensures) ∙ sym c.is_covered.ensures ∙ c.if-not-is_covered.false;
}))

pub returns-in-Some-clause-refuses : goal.returns-in-Some-clause-refuses
returns-in-Some-clause-refuses c = not_derived c.args.app.now c.args.cert.now (c.loop-i.i + 1) c.in-Some.rule (returns-in-Some-clause-objects c)
