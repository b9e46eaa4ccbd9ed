use Rattle.std.proofs.Common.{Some, sym, ap, ◌∙◌}
use Rattle.std.proofs.lemmas.Option.{slice_get-get_or}
use Rattle.ps_model.specs.Exprs.{formula}
use Rattle.ps_decision.proofs.WrittenRows.{all_more, any_more}
use Rattle.ps_decision.proofs.emit.+expr.Goals as goal

pub emit_all-loop-place-preserved : goal.emit_all-loop-place-preserved
emit_all-loop-place-preserved t c =
    let a = c.args in
    let e = c.index-all-place.result in
    let place = c.loop-place.place in
    let there = slice_get-get_or a.all.now place e c.loop-place-test.true ∙ ap Some (sym c.index-all-place.is) in
    all_more formula a.all.now _ a.yes_at a.no_at c.loop-place.code.items c.emit_value.new.code.items place c.undecided-next_at.result
    e there c.loop-place.invariant c.undecided-next_at.ensures c.in_ok-emit_value.ensures

pub emit_any-loop-place-preserved : goal.emit_any-loop-place-preserved
emit_any-loop-place-preserved t c =
    let a = c.args in
    let e = c.index-all-place.result in
    let place = c.loop-place.place in
    let there = slice_get-get_or a.all.now place e c.loop-place-test.true ∙ ap Some (sym c.index-all-place.is) in
    any_more formula a.all.now _ a.yes_at a.no_at c.loop-place.code.items c.emit_value.new.code.items place c.undecided-next_at.result
    e there c.loop-place.invariant c.undecided-next_at.ensures c.in_ok-emit_value.ensures
