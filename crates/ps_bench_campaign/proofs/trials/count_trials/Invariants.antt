use Rattle.std.proofs.Common.{◌≡◌, map}
use Rattle.std.specs.List.{range_with_len}
use Rattle.ps_bench_trials.specs.Steps.{items_in}
use Rattle.ps_bench_trials.specs.Tallies.{all_counted, none_counted}
use Rattle.ps_world.specs.Whole.{Setup, IsSetupOf, machines_in}
use Rattle.ps_bench_campaign.specs.Bench.{IsBench}
use Rattle.ps_bench_campaign.specs.Campaigns.{result_of}
use Rattle.ps_bench_campaign.proofs.trials.count_trials.Given as goal

abbrev pub invariant-loop-done : goal.invariant-loop-done
invariant-loop-done l = record {
  counts : (setup : Setup) → IsSetupOf l.app setup →
      l.tally ≡ all_counted none_counted (map (result_of l.app (machines_in setup) (items_in l.course.steps.items) l.room) (range_with_len l.asked.from l.done));
  bench : IsBench l.app l.course.steps.items l.bench;
}
