use Rattle.std.proofs.Common.{◌≡◌, ◌∙◌, List, [], ◌∷◌, length, sym, ap, subst}
use Rattle.ps_bench_trials.specs.Steps.{items_in}
use Rattle.ps_bench_trials.specs.declared.step.Step.{Step}
use Rattle.ps_model.specs.Network.{instance_count}
use Rattle.ps_model.specs.declared.channel.Fault.{Fault}
use Rattle.ps_bench_trials.specs.Times.{time_in}
use Rattle.ps_bench_trials.specs.Faults.{fault_by}
use Rattle.ps_world.specs.Whole.{machines_in}
use Rattle.ps_world.specs.Worlds.{world_0}
use Rattle.ps_bench_campaign.specs.Marks.{AreMarks, shown_from}
use Rattle.ps_bench_campaign.specs.Showing.{outcome_of}
use Rattle.ps_bench_campaign.proofs.Failing.{unsaid}
use Rattle.ps_bench_campaign.proofs.Trying.{outcome_is}
use Rattle.ps_bench_campaign.proofs.trials.try_trial.Goals as goal

pub run_trial-requires : goal.run_trial-requires
run_trial-requires c = record {
  setup = c.requires.bench.setup;
  marks = subst (λ (ss : List Step). AreMarks c.args.app.now ss c.args.bench.now.marks) (sym c.as_slice-steps.ensures.value) c.requires.bench.marks;
  outputs = c.requires.bench.outputs;
  diagnoses = c.requires.bench.diagnoses;
}

pub returns : goal.returns
returns c = record {
  outcome = λ setup is.
      let net = c.args.app.now in
      let t = c.args.trial.now in
      let own = c.args.bench.now.world.setup in
      let steps = c.args.course.now.steps.items in
      let items = items_in steps in
      let f = c.in_ok-fault.fault in
      let struck = c.struck_at-struck.result in
      let there = c.as_slice-steps.ensures.value in
      let struck_is : struck ≡ time_in f.scan items =
      c.struck_at-struck.ensures ∙ ap (λ (ss : List Step). time_in t.scan (items_in ss)) there
      ∙ ap (λ (x : Fault). time_in x.scan items) (sym c.in_ok-fault.ensures) in
      let shows : c.run_trial.result ≡ shown_from (machines_in own) (length net.outputs) (instance_count net) (f ∷ []) struck 0 steps (world_0 (machines_in own)) =
      c.run_trial.ensures.shows
      ∙ ap (λ (ss : List Step). shown_from (machines_in own) (length net.outputs) (instance_count net) (f ∷ []) struck 0 ss (world_0 (machines_in own))) there in
      subst (λ (x : Fault). c.run_trial.result ≡ outcome_of net (machines_in setup) items x)
      (c.in_ok-fault.ensures
      ∙ (λ i. fault_by ((c.as_slice.ensures.bytes ∙ c.requires.bench.code_a) i) ((c.as_slice-2.ensures.bytes ∙ c.requires.bench.code_b) i) t))
      (outcome_is net own setup steps f struck c.run_trial.result c.requires.bench.setup is c.requires.course.meant struck_is shows);
  bench =
      record {
        code_a = c.requires.bench.code_a;
        code_b = c.requires.bench.code_b;
        marks = c.requires.bench.marks;
        setup = c.run_trial.ensures.setup;
        outputs = c.run_trial.ensures.outputs;
        diagnoses = c.run_trial.ensures.diagnoses;
      };
}

pub returns-in_err-fault : goal.returns-in_err-fault
returns-in_err-fault c = record { outcome = λ setup is. unsaid _ _ c.from_residual.result c.from_residual.ensures.1; bench = c.requires.bench }
