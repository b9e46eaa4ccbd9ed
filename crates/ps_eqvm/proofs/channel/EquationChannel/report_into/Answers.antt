use Rattle.std.proofs.Common.{Some, ap, ◌∙◌, sym, length}
use Rattle.std.proofs.lemmas.List.FromFn.{length-map-range_with_len}
use Rattle.ps_eqvm.specs.Turn.{report_b}
use Rattle.ps_machine.specs.StoredChannel.{Stored}
use Rattle.ps_eqvm.proofs.Reported.{no_report_held, report_held}
use Rattle.ps_eqvm.proofs.channel.EquationChannel.report_into.Goals as goal

pub returns-then-not-has_report-clause-none : goal.returns-then-not-has_report-clause-none
returns-then-not-has_report-clause-none c =
    let s = c.self.inside in
    λ _. ap (λ (v : Stored). report_b v.sizes v.cells) (sym c.self.view_is) ∙ no_report_held s.sizes s.plain c.sound.ensures (sym c.has_report.ensures ∙ c.if-not-has_report.true)

pub returns-clause-report : goal.returns-clause-report
returns-clause-report c =
    let s = c.self.inside in
    λ _. ap (λ (v : Stored). report_b v.sizes v.cells) (sym c.self.view_is)
    ∙ report_held s.sizes s.plain c.sound.ensures (sym c.has_report.ensures ∙ c.if-not-has_report.false)
    ∙ (λ x. Some (record { outs = sym c.write_outputs.ensures x; diags = sym c.write_diags.ensures x }))

pub returns-clause-sized : goal.returns-clause-sized
returns-clause-sized c = (
  ap length c.write_outputs.ensures ∙ length-map-range_with_len _ 0 _ ∙ ap (λ (v : Stored). v.sizes.outputs) c.self.view_is ∙ sym c.requires.outs,
  ap length c.write_diags.ensures ∙ length-map-range_with_len _ 0 _ ∙ ap (λ (v : Stored). v.sizes.instances) c.self.view_is ∙ sym c.requires.diags,
)
