use Rattle.std.proofs.Common.{◌≡◌, ◌∙◌, ◌+◌, arith, ap}
use Rattle.ps_bench_trials.specs.Steps.{items_in}
use Rattle.ps_eqvm.specs.Code.{code_b}
use Rattle.ps_stackvm.specs.Code.{code_a}
use Rattle.ps_bench_trials.specs.Tallies.{counted}
use Rattle.ps_bench_trials.specs.Faults.{fault_by}
use Rattle.ps_bench_trials.specs.Trials.{trial_of}
use Rattle.ps_world.specs.Whole.{machines_in}
use Rattle.ps_bench_campaign.specs.Campaigns.{campaign, result_of}
use Rattle.ps_bench_campaign.specs.Showing.{outcome_of}
use Rattle.ps_bench_campaign.proofs.Counting.{one_more}
use Rattle.ps_bench_campaign.proofs.trials.count_trials.Goals as goal

pub loop-done-init : goal.loop-done-init
loop-done-init c = record { counts = λ setup is. c.in_ok-tally.ensures; bench = c.requires.bench }

pub try_trial-requires : goal.try_trial-requires
try_trial-requires c = record { course = c.requires.course; bench = c.loop-done.invariant.bench }

pub loop-done-preserved : goal.loop-done-preserved
loop-done-preserved c = record {
  counts = λ setup is.
      let net = c.args.app.now in
      let m = machines_in setup in
      let items = items_in c.args.course.now.steps.items in
      let room = c.args.room.now in
      let from = c.args.asked.now.from in
      let done = c.loop-done.done in
      let tally = c.loop-done.tally in
      let trial_is : c.draw_trial-trial.result ≡ trial_of room (from + done) =
      c.draw_trial-trial.ensures.drawn ∙ (λ i. trial_of room (c.from.ensures i + c.from-in-loop-done.ensures i)) in
      let outcome_is : c.in_ok-outcome.outcome ≡ (result_of net m items room (from + done)).outcome =
      c.in_ok-outcome.ensures.outcome setup is ∙ (λ i. outcome_of net m items (fault_by (code_a net) (code_b net) (trial_is i))) in
      c.count.ensures ∙ (λ i. counted tally (trial_is i).channel (trial_is i).region (outcome_is i))
      ∙ one_more (result_of net m items room) from done tally (c.loop-done.invariant.counts setup is);
  bench = c.in_ok-outcome.ensures.bench;
}

pub returns : goal.returns
returns c = λ setup is.
    let items = items_in c.args.course.now.steps.items in
    let all : c.loop-done.done ≡ c.args.asked.now.count = omega arith in
    c.loop-done.invariant.counts setup is
    ∙ ap (campaign c.args.app.now (machines_in setup) items c.args.room.now c.args.asked.now.from) all
