use Rattle.ps_model.specs.PinBits.{pin_of}
use Rattle.ps_block.proofs.Showing.{inactive_code, inactive_off}
use Rattle.ps_block.proofs.laws.inactive_step.Goals as goal

pub returns-clause-step : goal.returns-clause-step
returns-clause-step g c = record { moves = c.step.ensures.moves; shows = c.step.ensures.shows }

pub returns-clause-code : goal.returns-clause-code
returns-clause-code g c =
    let kept = g.B.SafetyBlock.kept in
    inactive_code g.B.SafetyBlock.KIND c.args.pins.limit c.args.pins.now (pin_of c.args.pins.bits) (kept c.args.state.now) (kept c.step.new.state) c.step.result c.step.ensures.moves c.step.ensures.shows c.requires

pub returns-clause-off : goal.returns-clause-off
returns-clause-off g c =
    let kept = g.B.SafetyBlock.kept in
    inactive_off g.B.SafetyBlock.KIND c.args.pins.limit c.args.pins.now (pin_of c.args.pins.bits) (kept c.args.state.now) (kept c.step.new.state) c.step.result c.step.ensures.moves c.step.ensures.shows
    (c.off_where_inactive.ensures.outputs g.B.SafetyBlock.KIND) c.requires
