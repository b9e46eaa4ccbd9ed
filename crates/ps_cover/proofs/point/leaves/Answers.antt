use Rattle.std.proofs.Common.{sym, ap, ◌∙◌, ◌||◌}
use Rattle.std.specs.Prelude.{◌==◌}
use Rattle.ps_machine.specs.Reading.{read_in}
use Rattle.ps_cover.specs.Deciding.{is_value}
use Rattle.ps_cover.proofs.CoverDeciding.{value_of}
use Rattle.ps_cover.proofs.point.leaves.Goals as goal

pub returns : goal.returns
returns c =
    let d = c.args.decision.now in
    let v = read_in c.args.app.now c.args.signals.now d.step in
    c.leaves_decision.ensures
    ∙ ap (λ b. c.args.j == d.place || is_value d.of_and b)
    (c.read_value-value.ensures ∙ sym (value_of v d.operands.now.items.items c.args.j c.at.result.now c.at.ensures))
