use Rattle.std.proofs.Common.{◌≤◌, ◌+◌, ℕ, List, [], drop, sym, subst, arith}
use Rattle.std.proofs.lemmas.List.Elements.{All-nil, All-same}
use Rattle.ps_bench_trials.specs.declared.step.Step.{Step}
use Rattle.ps_bench_trials.specs.declared.step.Step.TheVariants.{Scanned, Anew}
use Rattle.ps_model.proofs.Rest.{rest_at}
use Rattle.ps_bench_campaign.specs.Marks.{IsMark, IsMoment, scans_of}
use Rattle.ps_bench_campaign.proofs.Failing.{unsaid}
use Rattle.ps_bench_campaign.proofs.Marking.{moment_next, one_fits}
use Rattle.ps_bench_campaign.proofs.marks.mark_later.Goals as goal

one_scan : (step : Step) → scans_of step ≤ 1
one_scan Anew = omega arith
one_scan (Scanned s meant) = omega arith

pub loop-place-init : goal.loop-place-init
loop-place-init c = record {
  moment = c.requires.moment;
  few = omega arith;
  later = All-same (IsMark c.args.app.now c.args.steps.now) c.new-later.result.items [] c.new-later.ensures.items (All-nil _);
  outputs = c.requires.outputs;
  diagnoses = c.requires.diagnoses;
}

pub add_mark-requires : goal.add_mark-requires
add_mark-requires c =
    let inv = c.loop-place.invariant in
    let before = c.loop-place-test.true in
    record {
      accepted = c.requires.accepted;
      later = inv.later;
      apart = c.requires.apart;
      within = omega (arith, before);
      few = inv.few;
      moment = inv.moment;
    }

pub pass-scans-requires : goal.pass-scans-requires
pass-scans-requires c =
    let inv = c.loop-place.invariant in
    record {
      setup = inv.moment.setup;
      rest = inv.moment.rest;
      fits =
          let all = c.args.steps.now in
          let i = c.loop-place.place in
          let step = c.index-steps-place.result in
          let so = subst (λ (ss : List Step). IsMoment c.args.app.now all ss c.loop-place.scans c.loop-place.world)
          (rest_at all i step c.loop-place-test.true c.index-steps-place.is) inv.moment in
          one_fits c.args.app.now c.loop-place.world.state.last step (drop (i + 1) all) so.fits;
      outputs = inv.outputs;
      diagnoses = inv.diagnoses;
    }

pub overflow_add-scans : goal.overflow_add-scans
overflow_add-scans c =
    let one = one_scan c.index-steps-place.result in
    let count = c.pass-scans.ensures.count in
    let few = c.loop-place.invariant.few in
    omega arith

pub loop-place-preserved : goal.loop-place-preserved
loop-place-preserved c =
    let net = c.args.app.now in
    let all = c.args.steps.now in
    let i = c.loop-place.place in
    let step = c.index-steps-place.result in
    let passed = c.pass-scans.ensures in
    let one = one_scan step in
    let inv = c.loop-place.invariant in
    let so = subst (λ (ss : List Step). IsMoment net all ss c.loop-place.scans c.loop-place.world)
    (rest_at all i step c.loop-place-test.true c.index-steps-place.is) inv.moment in
    record {
      moment = subst (λ (n : ℕ). IsMoment net all (drop (i + 1) all) (c.loop-place.scans + n) c.pass-scans.new.world) (sym passed.count)
          (moment_next net all (drop (i + 1) all) step c.loop-place.scans c.loop-place.world c.pass-scans.new.world so passed.passes passed.rest passed.last);
      few = omega (arith, passed.count, inv.few, one);
      later = c.in_ok-add_mark.ensures;
      outputs = passed.outputs;
      diagnoses = passed.diagnoses;
    }

pub returns : goal.returns
returns c =
    let inv = c.loop-place.invariant in
    record { later = inv.later; setup = inv.moment.setup; outputs = inv.outputs; diagnoses = inv.diagnoses }

pub returns-in_err-add_mark : goal.returns-in_err-add_mark
returns-in_err-add_mark c =
    let inv = c.loop-place.invariant in
    record { later = unsaid _ _ c.from_residual.result c.from_residual.ensures.1; setup = inv.moment.setup; outputs = inv.outputs; diagnoses = inv.diagnoses }
