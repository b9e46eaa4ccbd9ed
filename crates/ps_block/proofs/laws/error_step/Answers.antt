use Rattle.std.proofs.Common.{sym, ap, ◌∙◌}
use Rattle.ps_model.specs.Blocks.{error_in}
use Rattle.ps_block.proofs.Showing.{error_shown}
use Rattle.ps_block.proofs.laws.error_step.Goals as goal

pub returns-clause-step : goal.returns-clause-step
returns-clause-step g c = record { moves = c.step.ensures.moves; shows = c.step.ensures.shows }

pub returns-clause-error : goal.returns-clause-error
returns-clause-error g c =
    let k = g.B.SafetyBlock.kept c.step.new.state in
    error_shown g.B.SafetyBlock.KIND c.step.result k c.step.ensures.shows
    ∙ c.errors_exactly.ensures.error g.B.SafetyBlock.KIND k.code k.mode
    ∙ ap error_in (sym c.step.ensures.shows.code)
