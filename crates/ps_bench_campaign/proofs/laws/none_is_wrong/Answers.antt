use Rattle.std.proofs.Common.{[], ◌∷◌}
use Rattle.ps_world.specs.Orders.{other}
use Rattle.ps_bench_trials.specs.Times.{time_in}
use Rattle.ps_bench_campaign.proofs.Rightly.{never_wrong, spares}
use Rattle.ps_bench_campaign.proofs.laws.none_is_wrong.Goals as goal

pub returns : goal.returns
returns c accepted setup built items timely f =
    let means = c.one_meaning.ensures items in
    never_wrong c.args.app.now (time_in f.scan items) items _ _ means.meaning
    (c.quiet_runs_release.ensures accepted setup built items means.meaning timely means.means)
    (c.runs_are_right.ensures accepted setup built items (f ∷ []) means.meaning (other f.channel) timely (spares f) means.means)
