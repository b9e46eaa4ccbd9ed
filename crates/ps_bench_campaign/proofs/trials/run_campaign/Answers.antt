use Rattle.std.proofs.Common.{◌≡◌, subst}
use Rattle.std.specs.Prelude.{IfOk}
use Rattle.ps_bench_trials.specs.Steps.{items_in}
use Rattle.ps_bench_trials.specs.declared.drawing.Room.{Room}
use Rattle.ps_world.specs.Whole.{machines_in}
use Rattle.ps_bench_campaign.specs.Campaigns.{campaign}
use Rattle.ps_bench_campaign.proofs.trials.run_campaign.Goals as goal

pub returns : goal.returns
returns c = record {
  counts = λ setup is.
      subst (λ (room : Room). IfOk c.count_trials.result (λ tally. tally ≡ campaign c.args.app.now (machines_in setup)
      (items_in c.args.course.now.steps.items) room c.args.asked.now.from c.args.asked.now.count)) c.room_of-room.ensures (c.count_trials.ensures setup is);
}
