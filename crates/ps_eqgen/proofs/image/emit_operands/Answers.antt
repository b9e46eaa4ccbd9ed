use Rattle.std.proofs.Common.{◌≡◌, ◌++◌, map, ap, sym, ◌∙◌, arith, append_assoc}
use Rattle.std.specs.Int.{w16, to_be_bytes}
use Rattle.std.specs.List.{flat_map, range_with_len}
use Rattle.std.proofs.lemmas.Option.{get_or_from_slice_get}
use Rattle.ps_model.specs.Action.{free}
use Rattle.ps_model.specs.Args.{actual}
use Rattle.ps_model.specs.Scanning.{pin_at}
use Rattle.ps_model.proofs.Budgeting.{boolean_within}
use Rattle.ps_eqvm.specs.Code.{pin_operand, operand_of_pin}
use Rattle.ps_eqgen.proofs.Shallow.{shallow_at}
use Rattle.ps_eqgen.proofs.Written.{word_next}
use Rattle.ps_eqgen.proofs.image.emit_operands.Goals as goal

pub at-requires : goal.at-requires
at-requires c = omega (arith, boolean_within c.args.kind, c.boolean_pins-j-end.ensures.count, c.loop-j-test.true, c.requires.arguments)

pub free_value-requires : goal.free_value-requires
free_value-requires c = omega (arith, boolean_within c.args.kind, c.boolean_pins-j-end.ensures.count, c.loop-j-test.true)

pub argument_operand-operand-requires : goal.argument_operand-operand-requires
argument_operand-operand-requires c =
    omega (
      arith,
      shallow_at c.args.args.now c.requires.shallow c.loop-j.j (actual c.at.result.now) c.at.ensures,
      c.boolean_pins-j-end.ensures.few,
      c.loop-j-test.true,
    )

pub loop-j-preserved : goal.loop-j-preserved
loop-j-preserved c =
    let j = c.loop-j.j in
    let f = operand_of_pin c.args.kind c.args.args.now in
    let before = flat_map (to_be_bytes w16) (map f (range_with_len 0 j)) in
    let given = actual c.at.result.now in
    let found = get_or_from_slice_get c.args.args.now j given free c.at.ensures in
    let is : c.argument_operand-operand.result ≡ f j =
    c.argument_operand-operand.ensures
    ∙ ap (λ b. pin_operand b j given) c.free_value.ensures
    ∙ ap (pin_operand (pin_at c.args.kind j).free j) (sym found) in
    c.in_ok-emit_word.ensures
    ∙ ap (λ l. l ++ to_be_bytes w16 c.argument_operand-operand.result) c.loop-j.invariant
    ∙ append_assoc c.args.code.now.items before (to_be_bytes w16 c.argument_operand-operand.result)
    ∙ ap (λ n. c.args.code.now.items ++ (before ++ to_be_bytes w16 n)) is
    ∙ ap (λ l. c.args.code.now.items ++ l) (sym (word_next f j))
