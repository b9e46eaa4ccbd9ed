use Rattle.std.proofs.Common.{refl, sym, ap, ◌∙◌, map, arith}
use Rattle.ps_model.specs.declared.report.Diag.{Diag}
use Rattle.ps_model.specs.declared.report.Report.{Report}
use Rattle.ps_reach.specs.Asking.{behind_scan, no_pins, point_of}
use Rattle.ps_cut.proofs.Trials.{after_scan}
use Rattle.ps_cut.proofs.trying.Trial.scan.Goals as goal

pub returns-clause-goes : goal.returns-clause-goes
returns-clause-goes c = λ past pins stands.
    let net = c.args.of.now.app.now in
    let p = point_of net past pins in
    let is = c.scan.ensures.solves past stands.cells stands.later in
    let kept = c.in_ok-behind.ensures in
    let at = after_scan net p c.args.self.now.moment c.in_ok-behind.behind is.state stands.moment kept.0 kept.1 (kept.2 ∙ c.signals.ensures ∙ is.stands.signals)
    (kept.3 ∙ ap (λ (r : Report). map (λ (d : Diag). d.code) r.diags) is.reports) in (
      refl,
      record {
        state = is.state;
        solves = is.solves;
        comes = record { time = stands.time; inputs = c.if-not-are_as_said.ensures refl (point_of net past no_pins) stands.moment.begun stands.moment.signals };
        meets_it = sym (c.meets-met.ensures p (behind_scan net p is.state) stands.moment at);
        stands = record { cells = is.stands; moment = at; time = omega arith; later = omega arith };
      },
    )
