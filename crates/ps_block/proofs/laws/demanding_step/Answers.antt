use Rattle.ps_model.specs.PinBits.{pin_of}
use Rattle.ps_block.proofs.Showing.{demand_met}
use Rattle.ps_block.proofs.laws.demanding_step.Goals as goal

pub returns-clause-step : goal.returns-clause-step
returns-clause-step g c = record { moves = c.step.ensures.moves; shows = c.step.ensures.shows }

pub returns-clause-demand : goal.returns-clause-demand
returns-clause-demand g c =
    let kept = g.B.SafetyBlock.kept in
    demand_met g.B.SafetyBlock.KIND c.args.pins.limit c.args.pins.now (pin_of c.args.pins.bits) (kept c.args.state.now) (kept c.step.new.state) c.step.result c.step.ensures.moves c.step.ensures.shows
    (c.each_demands.ensures g.B.SafetyBlock.KIND)
