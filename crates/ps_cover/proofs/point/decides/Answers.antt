use Rattle.std.proofs.Common.{◌≡◌, ◌≤◌, ◌<◌, ◌∙◌, ◌&&◌, false, true, ap, length, sym, arith}
use Rattle.std.proofs.lemmas.Bool.{le-ltb, lt-ltb}
use Rattle.std.proofs.lemmas.List.{length-map}
use Rattle.ps_cover.specs.Deciding.{is_value}
use Rattle.ps_model.specs.Exprs.{formula}
use Rattle.ps_machine.specs.Reading.{read_in}
use Rattle.ps_cover.specs.Covering.{operands_in, others_leave_in}
use Rattle.ps_cover.specs.Points.{value_at}
use Rattle.ps_cover.proofs.CoverDeciding.{value_of}
use Rattle.ps_cover.proofs.point.decides.Goals as goal

pub returns-then-decision-len : goal.returns-then-decision-len
returns-then-decision-len c =
    let d = c.args.decision.now in
    let past : length (operands_in d) ≤ d.place = omega (arith, c.if-decision-len.true, c.len.ensures, length-map d.operands.now.items.items formula) in
    sym (ap (λ within. (within && is_value c.args.value (value_at (read_in c.args.app.now c.args.signals.now d.step) (operands_in d) d.place)) && others_leave_in c.args.app.now c.args.signals.now d)
    (le-ltb d.place (length (operands_in d)) past))

pub returns-then-is_value : goal.returns-then-is_value
returns-then-is_value c =
    let d = c.args.decision.now in
    let v = read_in c.args.app.now c.args.signals.now d.step in
    let within : d.place < length (operands_in d) = omega (arith, c.if-decision-len.false, c.len.ensures, length-map d.operands.now.items.items formula) in
    let itself : true ≡ is_value c.args.value (value_at v (operands_in d) d.place) =
    sym c.if-is_value.true ∙ c.is_value.ensures ∙ ap (is_value c.args.value) (c.read_value.ensures ∙ sym (value_of v d.operands.now.items.items d.place c.at-itself.result.now c.at-itself.ensures)) in
    c.others_leave.ensures ∙ (λ i. (sym (lt-ltb d.place (length (operands_in d)) within) i && itself i) && others_leave_in c.args.app.now c.args.signals.now d)

pub returns-else-is_value : goal.returns-else-is_value
returns-else-is_value c =
    let d = c.args.decision.now in
    let v = read_in c.args.app.now c.args.signals.now d.step in
    let within : d.place < length (operands_in d) = omega (arith, c.if-decision-len.false, c.len.ensures, length-map d.operands.now.items.items formula) in
    let itself : false ≡ is_value c.args.value (value_at v (operands_in d) d.place) =
    sym c.if-is_value.false ∙ c.is_value.ensures ∙ ap (is_value c.args.value) (c.read_value.ensures ∙ sym (value_of v d.operands.now.items.items d.place c.at-itself.result.now c.at-itself.ensures)) in
    c.if-is_value.false ∙ (λ i. (sym (lt-ltb d.place (length (operands_in d)) within) i && itself i) && others_leave_in c.args.app.now c.args.signals.now d)
