use Rattle.std.proofs.Common.{List, length, ap, arith, subst, sym}
use Rattle.std.specs.List.{All}
use Rattle.ps_bench_campaign.specs.Courses.{AreStepsFor}
use Rattle.ps_bench_trials.specs.Steps.{items_in}
use Rattle.ps_bench_trials.specs.declared.step.Step.{Step}
use Rattle.ps_model.specs.Network.{input_count, instance_count}
use Rattle.ps_bench_trials.specs.declared.mark.Mark.{Mark}
use Rattle.ps_machine.specs.Items.{AreTimely}
use Rattle.ps_world.specs.Whole.{machines_in}
use Rattle.ps_world.specs.Worlds.{world_0}
use Rattle.ps_bench_campaign.specs.Marks.{IsMark, IsMoment}
use Rattle.ps_bench_campaign.proofs.Failing.{unsaid}
use Rattle.ps_bench_campaign.proofs.Marking.{moment_first, recorded}
use Rattle.ps_bench_campaign.proofs.marks.mark_course.Goals as goal

pub are_timely-requires : goal.are_timely-requires
are_timely-requires c = subst (AreStepsFor c.args.app.now 0) (sym c.as_slice-steps.ensures.value) c.requires.course.fits

pub mark_at-requires : goal.mark_at-requires
mark_at-requires c = record { accepted = c.requires.accepted; setup = c.requires.world.setup }

pub mark_later-requires : goal.mark_later-requires
mark_later-requires c = record {
  accepted = c.requires.accepted;
  apart = omega arith;
  moment =
      let net = c.args.app.now in
      let all = c.args.course.now.steps.items in
      let w = c.args.world.now in
      let is = c.requires.world in
      let m = machines_in w.setup in
      let timely = subst (λ (ss : List Step). AreTimely (input_count net) 0 (items_in ss)) c.as_slice-steps.ensures.value c.are_timely.ensures in
      let means = c.one_meaning.ensures (items_in all) in
      subst (λ (ss : List Step). IsMoment net ss ss 0 w) (sym c.as_slice-steps.ensures.value)
      (moment_first net all w is c.requires.course.fits
      (recorded m (length net.outputs) (instance_count net) net 1 all (world_0 m) means.meaning (c.requires.course.meant w.setup is.setup)
      (c.quiet_runs_release.ensures c.requires.accepted w.setup is.setup (items_in all) means.meaning timely means.means)));
  outputs = c.requires.outputs;
  diagnoses = c.requires.diagnoses;
}

pub returns : goal.returns
returns c = record {
  marks =
      let net = c.args.app.now in
      let all = c.args.course.now.steps.items in
      let w = c.args.world.now in
      let is = c.requires.world in
      let m = machines_in w.setup in
      let timely = subst (λ (ss : List Step). AreTimely (input_count net) 0 (items_in ss)) c.as_slice-steps.ensures.value c.are_timely.ensures in
      let means = c.one_meaning.ensures (items_in all) in
      let moment = moment_first net all w is c.requires.course.fits
      (recorded m (length net.outputs) (instance_count net) net 1 all (world_0 m) means.meaning (c.requires.course.meant w.setup is.setup)
      (c.quiet_runs_release.ensures c.requires.accepted w.setup is.setup (items_in all) means.meaning timely means.means)) in
      record {
        first = subst (IsMark net all) (sym c.in_ok-first.ensures) (record { within = omega arith; few = omega arith; moment = moment });
        beginning = ap (λ (mark : Mark). mark.scans) c.in_ok-first.ensures;
        later = subst (λ (ss : List Step). All (IsMark net ss) c.in_ok-later.later.items) c.as_slice-steps.ensures.value c.in_ok-later.ensures.later;
        apart = omega arith;
      };
  setup = c.in_ok-later.ensures.setup;
  outputs = c.in_ok-later.ensures.outputs;
  diagnoses = c.in_ok-later.ensures.diagnoses;
}

pub returns-in_err-first : goal.returns-in_err-first
returns-in_err-first c = record {
  marks = unsaid _ _ c.from_residual.result c.from_residual.ensures.1;
  setup = c.requires.world.setup;
  outputs = c.requires.outputs;
  diagnoses = c.requires.diagnoses;
}

pub returns-in_err-later : goal.returns-in_err-later
returns-in_err-later c = record {
  marks = unsaid _ _ c.from_residual-in_err-later.result c.from_residual-in_err-later.ensures.1;
  setup = c.mark_later.ensures.setup;
  outputs = c.mark_later.ensures.outputs;
  diagnoses = c.mark_later.ensures.diagnoses;
}
