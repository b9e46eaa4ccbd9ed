use Rattle.std.proofs.Common.{◌≡◌, ◌∙◌, ◌≤◌, ◌+◌, List, [], ◌∷◌, Option, length, drop, sym, ap, subst, arith, ℕ}
use Rattle.std.proofs.lemmas.List.{drop_all}
use Rattle.ps_bench_campaign.specs.Courses.{AreStepsFor}
use Rattle.ps_bench_trials.specs.declared.step.Step.{Step}
use Rattle.ps_model.proofs.Rest.{rest_at}
use Rattle.ps_model.specs.declared.report.Report.{Report}
use Rattle.ps_world.specs.Whole.{Whole, IsSetupOf}
use Rattle.ps_bench_trials.specs.Outcomes.{ended_by}
use Rattle.ps_bench_campaign.proofs.Early.{begins, is_silent}
use Rattle.ps_bench_campaign.proofs.Going.{Goes, at_first, ends, goes_anew, goes_on, showing}
use Rattle.ps_bench_campaign.proofs.Trying.{one_setup}
use Rattle.ps_bench_campaign.proofs.trialing.run_trial.Goals.{in-Anew, in-Scanned+in_default}
use Rattle.ps_bench_campaign.proofs.trialing.run_trial.Goals as goal

pub copy_from-requires : goal.copy_from-requires
copy_from-requires c =
    one_setup c.args.app.now c.args.world.now.setup c.start_of-start.result.now.world.setup c.requires.setup c.start_of-start.ensures.mark.moment.setup

pub loop-place-init : goal.loop-place-init
loop-place-init c =
    let net = c.args.app.now in
    let f = c.args.fault.now in
    let faults = f ∷ [] in
    let start = c.start_of-start.result.now in
    let mark = c.start_of-start.ensures.mark in
    record {
      goes = subst (λ (w : Whole). Goes net faults c.args.struck (showing net faults c.args.struck 0 c.args.steps.now (at_first c.args.world.now)) start.scans (drop start.place c.args.steps.now) w)
          (sym c.copy_from.ensures)
          (begins net f c.args.struck c.args.steps.now (drop start.place c.args.steps.now) start.scans c.args.world.now start.world c.requires.setup mark.moment
          c.start_of-start.ensures.before);
      few = mark.few;
      within = mark.within;
      outputs = c.requires.outputs;
      diagnoses = c.requires.diagnoses;
    }

pub start_of-start-requires : goal.start_of-start-requires
start_of-start-requires c = c.requires.marks

pub make_scan-verdict-requires : goal.make_scan-verdict-requires
make_scan-verdict-requires c =
    let net = c.args.app.now in
    let all = c.args.steps.now in
    let i = c.loop-place.place in
    let inv = c.loop-place.invariant in
    let left = rest_at all i c.index-steps-place.result c.loop-place-test.true c.index-steps-place.is ∙ ap (λ (x : Step). x ∷ drop (i + 1) all) c.in-Scanned.is in
    let fits = subst (AreStepsFor net c.loop-place.world.state.last) left inv.goes.fits in
    record {
      rest = inv.goes.rest;
      later = fits.0;
      inputs = fits.1 ∙ sym inv.goes.setup.sizes.inputs;
      outs = inv.outputs ∙ sym inv.goes.setup.sizes.outputs;
      diags = inv.diagnoses ∙ sym inv.goes.setup.sizes.instances;
    }

pub first_difference-differs-requires : goal.first_difference-differs-requires
first_difference-differs-requires c =
    let net = c.args.app.now in
    let all = c.args.steps.now in
    let i = c.loop-place.place in
    let inv = c.loop-place.invariant in
    let left = rest_at all i c.index-steps-place.result c.loop-place-test.true c.index-steps-place.is ∙ ap (λ (x : Step). x ∷ drop (i + 1) all) c.in-Scanned.is in
    let fits = subst (AreStepsFor net c.loop-place.world.state.last) left inv.goes.fits in
    let outs = c.make_scan-verdict.ensures.sized.0 ∙ inv.outputs in
    let diags = c.make_scan-verdict.ensures.sized.1 ∙ inv.diagnoses in
    record {
      outs = outs ∙ sym fits.2;
      diags = diags ∙ sym fits.3;
      few = omega (arith, outs, diags, c.few_fields.ensures);
    }

pub restart-requires : goal.restart-requires
restart-requires c = c.loop-place.invariant.goes.rest

pub is_over-requires : goal.is_over-requires
is_over-requires c = record { marks = c.requires.marks; setup = c.loop-place.invariant.goes.setup }

pub returns-then-is_over : goal.returns-then-is_over
returns-then-is_over c =
    let net = c.args.app.now in
    let f = c.args.fault.now in
    let faults = f ∷ [] in
    let all = c.args.steps.now in
    let inv = c.loop-place.invariant in
    record {
      shows =
          is_silent net f c.args.struck all
          (showing net faults c.args.struck 0 all (at_first c.args.world.now)) (drop c.loop-place.place all) c.loop-place.number c.loop-place.world
          inv.goes (c.is_over.ensures.struck c.if-is_over.true) (c.is_over.ensures.quiet c.if-is_over.true);
      setup = inv.goes.setup;
      outputs = inv.outputs;
      diagnoses = inv.diagnoses;
    }

pub returns-in-Some : goal.returns-in-Some
returns-in-Some c =
    let net = c.args.app.now in
    let faults = c.args.fault.now ∷ [] in
    let struck = c.args.struck in
    let all = c.args.steps.now in
    let i = c.loop-place.place in
    let inv = c.loop-place.invariant in
    let whole = showing net faults struck 0 all (at_first c.args.world.now) in
    let s = c.in-Scanned.scan in
    let meant = c.in-Scanned.meant in
    let made = c.make_scan-verdict.ensures in
    let left = rest_at all i c.index-steps-place.result c.loop-place-test.true c.index-steps-place.is ∙ ap (λ (x : Step). x ∷ drop (i + 1) all) c.in-Scanned.is in
    let so = subst (λ (ss : List Step). Goes net faults struck whole c.loop-place.number ss c.loop-place.world) left inv.goes in
    let v = c.make_scan-verdict.result in
    let by = c.ended_by.ensures ∙ ap (λ (d : Option ℕ). ended_by v struck s.now d) c.first_difference-differs.ensures.first in
    record {
      shows =
          ends net faults struck whole c.loop-place.number (drop (i + 1) all) c.loop-place.world s meant c.due.result.now so c.due.ensures
          v c.make_scan-verdict.new.into made.verdict made.report c.ended_by.result c.in-Some.outcome by c.in-Some.is;
      setup = subst (λ (w : Whole). IsSetupOf net w.setup) (sym made.events) inv.goes.setup;
      outputs = made.sized.0 ∙ inv.outputs;
      diagnoses = made.sized.1 ∙ inv.diagnoses;
    }

pub loop-place-preserved : goal.loop-place-preserved
loop-place-preserved c =
    let net = c.args.app.now in
    let faults = c.args.fault.now ∷ [] in
    let struck = c.args.struck in
    let all = c.args.steps.now in
    let i = c.loop-place.place in
    let inv = c.loop-place.invariant in
    let whole = showing net faults struck 0 all (at_first c.args.world.now) in
    let first = rest_at all i c.index-steps-place.result c.loop-place-test.true c.index-steps-place.is in
    elim c.match-step.branch [
      | in-Anew w ↦
          let left = first ∙ ap (λ (x : Step). x ∷ drop (i + 1) all) w.in-Anew.is in
          let so = subst (λ (ss : List Step). Goes net faults struck whole c.loop-place.number ss c.loop-place.world) left inv.goes in
          record {
            goes = subst (λ (n : ℕ). Goes net faults struck whole n (drop (i + 1) all) c.match-step.world) (sym w.number-is)
                (goes_anew net faults struck whole c.loop-place.number (drop (i + 1) all) c.loop-place.world c.match-step.world so (w.world-is ∙ w.restart.ensures));
            few = omega (arith, w.number-is, inv.few);
            within = omega arith;
            outputs = ap (λ (r : Report). length r.outs) w.report-is ∙ inv.outputs;
            diagnoses = ap (λ (r : Report). length r.diags) w.report-is ∙ inv.diagnoses;
          }
      | in-Scanned+in_default w ↦
          let s = w.in-Scanned.scan in
          let meant = w.in-Scanned.meant in
          let made = w.make_scan-verdict.ensures in
          let left = first ∙ ap (λ (x : Step). x ∷ drop (i + 1) all) w.in-Scanned.is in
          let so = subst (λ (ss : List Step). Goes net faults struck whole c.loop-place.number ss c.loop-place.world) left inv.goes in
          let v = w.make_scan-verdict.result in
          let by = w.ended_by.ensures ∙ ap (λ (d : Option ℕ). ended_by v struck s.now d) w.first_difference-differs.ensures.first in
          record {
            goes = subst (λ (n : ℕ). Goes net faults struck whole n (drop (i + 1) all) c.match-step.world) (sym w.number-is)
                (goes_on net faults struck whole c.loop-place.number (drop (i + 1) all) c.loop-place.world s meant w.due.result.now so w.due.ensures
                v w.make_scan-verdict.new.into made.verdict made.report w.ended_by.result c.match-step.world by w.in_default.is (w.world-is ∙ made.events)
                (ap (λ (x : Whole). x.state.begun) w.world-is ∙ made.rest) (subst (λ (x : Whole). x.state.last ≤ s.now) (sym w.world-is) made.last));
            few = omega (arith, w.number-is, inv.few);
            within = omega arith;
            outputs = ap (λ (r : Report). length r.outs) w.report-is ∙ made.sized.0 ∙ inv.outputs;
            diagnoses = ap (λ (r : Report). length r.diags) w.report-is ∙ made.sized.1 ∙ inv.diagnoses;
          }
    ]

pub returns : goal.returns
returns c =
    let net = c.args.app.now in
    let faults = c.args.fault.now ∷ [] in
    let all = c.args.steps.now in
    let done = c.loop-place.number in
    let inv = c.loop-place.invariant in
    let none : drop c.loop-place.place all ≡ [] = drop_all c.loop-place.place all c.loop-place-test.false in
    record {
      shows = sym (ap (λ (ss : List Step). showing net faults c.args.struck done ss c.loop-place.world) none) ∙ inv.goes.shows;
      setup = inv.goes.setup;
      outputs = inv.outputs;
      diagnoses = inv.diagnoses;
    }
