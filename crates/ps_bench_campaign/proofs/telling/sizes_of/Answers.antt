use Rattle.std.proofs.Common.{◌∙◌, length, ap}
use Rattle.ps_bench_campaign.specs.Asking.{sizes_in}
use Rattle.ps_bench_campaign.proofs.Trying.{one_setup}
use Rattle.ps_world.specs.Whole.{Setup, machines_in}
use Rattle.ps_world.specs.Worlds.{World_state}
use Rattle.ps_bench_campaign.proofs.telling.sizes_of.Goals as goal

pub returns : goal.returns
returns c = λ setup is.
    let w = c.in_ok-world.world in
    c.sizes.ensures
    ∙ ap (λ (x : World_state). record { a_code = length x.a.code; a_cells = length x.a.cells; b_code = length x.b.code; b_cells = length x.b.cells })
    c.in_ok-world.ensures.beginning
    ∙ ap (λ (s : Setup). sizes_in (machines_in s)) (one_setup c.args.app.now w.setup setup c.in_ok-world.ensures.setup is)
