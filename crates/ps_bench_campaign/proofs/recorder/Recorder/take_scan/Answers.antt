use Rattle.std.proofs.Common.{◌≡◌, ◌∙◌, ◌≤◌, ◌+◌, [], List, false, length, refl, sym, ap, subst, arith}
use Rattle.std.proofs.lemmas.List.{length-replicate}
use Rattle.ps_bench_campaign.specs.Courses.{AreRecorded, latest_in}
use Rattle.ps_bench_trials.specs.Steps.{items_in}
use Rattle.ps_bench_trials.specs.declared.step.Step.{Step}
use Rattle.ps_bench_trials.specs.declared.step.Step.TheVariants.{Scanned}
use Rattle.ps_model.specs.declared.report.Report.{Report}
use Rattle.ps_world.specs.Orders.{scan_events}
use Rattle.ps_world.specs.Whole.{Whole, after_events, machines_in}
use Rattle.ps_bench_campaign.proofs.Failing.{unsaid}
use Rattle.ps_bench_campaign.proofs.Recorded.{recorded_scan}
use Rattle.ps_bench_campaign.proofs.Stepping.{items_more, latest_more}
use Rattle.ps_bench_campaign.proofs.recorder.Recorder.take_scan.Goals as goal

pub make_scan-released-requires-clause-rest : goal.make_scan-released-requires-clause-rest
make_scan-released-requires-clause-rest c = c.requires.recorded.rest

pub make_scan-released-requires-clause-later : goal.make_scan-released-requires-clause-later
make_scan-released-requires-clause-later c =
    let last = c.requires.recorded.last in
    omega (arith, last, c.requires.due)

pub make_scan-released-requires-clause-inputs : goal.make_scan-released-requires-clause-inputs
make_scan-released-requires-clause-inputs c = c.requires.inputs ∙ sym c.requires.recorded.setup.sizes.inputs

pub make_scan-released-requires-clause-outs : goal.make_scan-released-requires-clause-outs
make_scan-released-requires-clause-outs c =
    ap (λ (r : Report). length r.outs) c.in_ok-meant.ensures ∙ length-replicate _ _ ∙ sym c.requires.recorded.setup.sizes.outputs

pub make_scan-released-requires-clause-diags : goal.make_scan-released-requires-clause-diags
make_scan-released-requires-clause-diags c =
    ap (λ (r : Report). length r.diags) c.in_ok-meant.ensures ∙ length-replicate _ _ ∙ sym c.requires.recorded.setup.sizes.instances

pub returns : goal.returns
returns c = record {
  recorded =
      let net = c.args.app.now in
      let w = c.args.self.now.world in
      let steps = c.args.self.now.course.steps.items in
      let scans = c.args.self.now.course.scans in
      let s = c.args.scan in
      let made = c.make_scan-released.ensures in
      let meant = c.make_scan-released.new.into in
      let outs = made.sized.0 ∙ ap (λ (r : Report). length r.outs) c.in_ok-meant.ensures ∙ length-replicate _ _ in
      let diags = made.sized.1 ∙ ap (λ (r : Report). length r.diags) c.in_ok-meant.ensures ∙ length-replicate _ _ in
      let so = recorded_scan net w steps scans c.requires.recorded s meant c.requires.due c.requires.inputs made.report
      (subst (λ (x : Whole). x.state.begun ≡ false) made.events made.rest)
      (subst (λ (x : Whole). x.state.last ≤ s.now) made.events made.last) outs diags in
      subst (λ (x : Whole). AreRecorded net x c.push.new.self.items (scans + 1)) (sym made.events)
      (subst (λ (ss : List Step). AreRecorded net (after_events (scan_events (machines_in w.setup) [] s.now s.ins w.state) w) ss (scans + 1)) (sym c.in_ok-push.ensures.items) so);
  items = ap items_in c.in_ok-push.ensures.items ∙ items_more c.args.self.now.course.steps.items (Scanned c.args.scan c.make_scan-released.new.into);
  latest =
      ap (latest_in 0) c.in_ok-push.ensures.items
      ∙ latest_more 0 c.args.self.now.course.steps.items c.args.scan c.make_scan-released.new.into;
  count = refl;
}

pub returns-in_err-meant : goal.returns-in_err-meant
returns-in_err-meant c =
    let failed = c.from_residual.ensures.1 in
    record {
      recorded = unsaid _ _ c.from_residual.result failed;
      items = unsaid _ _ c.from_residual.result failed;
      latest = unsaid _ _ c.from_residual.result failed;
      count = unsaid _ _ c.from_residual.result failed;
    }

pub returns-in_err-push : goal.returns-in_err-push
returns-in_err-push c =
    let failed = c.from_residual-in_err-push.ensures.1 in
    record {
      recorded = unsaid _ _ c.from_residual-in_err-push.result failed;
      items = unsaid _ _ c.from_residual-in_err-push.result failed;
      latest = unsaid _ _ c.from_residual-in_err-push.result failed;
      count = unsaid _ _ c.from_residual-in_err-push.result failed;
    }
