use Rattle.std.proofs.Common.{◌+◌, ◌++◌, length, sym, ◌∙◌, arith}
use Rattle.std.proofs.lemmas.Option.{get_or_from_slice_get}
use Rattle.ps_model.specs.Action.{free}
use Rattle.ps_model.specs.Args.{actual}
use Rattle.ps_model.specs.Budgets.{boolean_count}
use Rattle.ps_model.proofs.Budgeting.{boolean_within, sum_next}
use Rattle.ps_decision.specs.declared.layout.TheConstants.{FIRST_PIN}
use Rattle.ps_decision.specs.Budget.{count_at_pin}
use Rattle.ps_decision.specs.Code.{pin_rows, rows_at_pin}
use Rattle.ps_decision.specs.Rows.{bytes_of}
use Rattle.ps_decision.proofs.Counted.{sum_within}
use Rattle.ps_decision.proofs.WrittenRows.{number_next, pin_long}
use Rattle.ps_decision.proofs.image.emit_pins.Goals as goal

pub free_value-requires : goal.free_value-requires
free_value-requires c = omega (arith, boolean_within c.args.kind, c.boolean_count-j-end.ensures.count, c.loop-j-test.true)

pub at-requires : goal.at-requires
at-requires c = omega (arith, boolean_within c.args.kind, c.boolean_count-j-end.ensures.count, c.loop-j-test.true, c.requires.args)

pub emit_pin-requires : goal.emit_pin-requires
emit_pin-requires c =
    omega (
      arith,
      sum_within count_at_pin c.args.args.now c.loop-j.j (boolean_count c.args.kind) _ c.at.ensures (omega (arith, c.loop-j-test.true, c.boolean_count-j-end.ensures.count)),
      c.loop-j.invariant.few,
      c.requires.room,
    )

pub loop-j-preserved : goal.loop-j-preserved
loop-j-preserved c =
    let j = c.loop-j.j in
    let code = c.loop-j.code.items in
    let args = c.args.args.now in
    let given = actual c.at.result.now in
    let found = get_or_from_slice_get args j given free c.at.ensures in
    let written = c.in_ok-emit_pin.ensures in
    let next = sum_next count_at_pin args j _ c.at.ensures in
    record {
      written = number_next (rows_at_pin c.args.kind args) c.args.code.now.items j code c.loop-j.invariant.written _
          (written ∙ (λ x. code ++ bytes_of (pin_rows (FIRST_PIN + c.from-target.ensures x) (c.free_value.ensures x) (sym found x) (length code))));
      few = omega (arith, pin_long _ c.free_value.result given code _ written, next, c.loop-j.invariant.few);
    }
