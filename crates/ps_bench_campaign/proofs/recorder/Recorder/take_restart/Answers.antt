use Rattle.std.proofs.Common.{◌∙◌, List, refl, sym, ap, subst}
use Rattle.ps_bench_campaign.specs.Courses.{AreRecorded, latest_in}
use Rattle.ps_bench_trials.specs.Steps.{items_in}
use Rattle.ps_bench_trials.specs.declared.step.Step.{Step}
use Rattle.ps_bench_trials.specs.declared.step.Step.TheVariants.{Anew}
use Rattle.ps_world.specs.Whole.{Whole, happened}
use Rattle.ps_world.specs.Worlds.{Restart}
use Rattle.ps_bench_campaign.proofs.Failing.{unsaid}
use Rattle.ps_bench_campaign.proofs.Recorded.{recorded_anew}
use Rattle.ps_bench_campaign.proofs.Stepping.{items_more, latest_anew}
use Rattle.ps_bench_campaign.proofs.recorder.Recorder.take_restart.Goals as goal

pub returns : goal.returns
returns c = record {
  recorded =
      let net = c.args._app.now in
      let w = c.args.self.now.world in
      let steps = c.args.self.now.course.steps.items in
      let scans = c.args.self.now.course.scans in
      subst (λ (x : Whole). AreRecorded net x c.push.new.self.items scans) (sym c.restart.ensures)
      (subst (λ (s : List Step). AreRecorded net (happened Restart w) s scans) (sym c.in_ok-push.ensures.items)
      (recorded_anew net w steps scans c.requires));
  items = ap items_in c.in_ok-push.ensures.items ∙ items_more c.args.self.now.course.steps.items Anew;
  latest = ap (latest_in 0) c.in_ok-push.ensures.items ∙ latest_anew 0 c.args.self.now.course.steps.items;
  count = refl;
}

pub returns-in_err-push : goal.returns-in_err-push
returns-in_err-push c =
    let failed = c.from_residual.ensures.1 in
    record {
      recorded = unsaid _ _ c.from_residual.result failed;
      items = unsaid _ _ c.from_residual.result failed;
      latest = unsaid _ _ c.from_residual.result failed;
      count = unsaid _ _ c.from_residual.result failed;
    }
