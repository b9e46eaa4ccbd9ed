use Rattle.std.proofs.Common.{ap}
use Rattle.ps_bench_campaign.proofs.Trying.{one_setup}
use Rattle.ps_world.specs.Whole.{Whole}
use Rattle.ps_bench_campaign.proofs.marks.mark_at.Goals as goal

pub copy_from-requires : goal.copy_from-requires
copy_from-requires c =
    one_setup c.args.app.now c.in_ok-copy.copy.setup c.args.world.now.setup c.in_ok-copy.ensures.setup c.requires.setup

pub returns : goal.returns
returns c = ap (λ (w : Whole). record { place = c.args.place; scans = c.args.scans; world = w }) c.copy_from.ensures
