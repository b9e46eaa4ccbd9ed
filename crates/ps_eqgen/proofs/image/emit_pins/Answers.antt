use Rattle.std.proofs.Common.{◌++◌, ap, sym, ◌∙◌, arith, append_assoc}
use Rattle.std.specs.List.{flat_map, range_with_len}
use Rattle.std.proofs.lemmas.Option.{get_or_from_slice_get}
use Rattle.ps_model.specs.Action.{free}
use Rattle.ps_model.specs.Args.{actual}
use Rattle.ps_model.proofs.Budgeting.{boolean_within}
use Rattle.ps_machine.proofs.Encoding.{pin_next}
use Rattle.ps_eqvm.specs.Code.{encoded, bytes_of, pin_rows, rows_at}
use Rattle.ps_eqgen.proofs.Shallow.{shallow_at}
use Rattle.ps_eqgen.proofs.image.emit_pins.Goals as goal

pub at-requires : goal.at-requires
at-requires c = omega (arith, boolean_within c.args.kind, c.boolean_pins-j-end.ensures.count, c.loop-j-test.true, c.requires.arguments)

pub emit_argument-requires : goal.emit_argument-requires
emit_argument-requires c =
    omega (
      arith,
      shallow_at c.args.args.now c.requires.shallow c.loop-j.j (actual c.at.result.now) c.at.ensures,
      c.boolean_pins-j-end.ensures.few,
      c.loop-j-test.true,
    )

pub loop-j-preserved : goal.loop-j-preserved
loop-j-preserved c =
    let j = c.loop-j.j in
    let f = rows_at c.args.args.now in
    let before = flat_map f (range_with_len 0 j) in
    let given = actual c.at.result.now in
    let found = get_or_from_slice_get c.args.args.now j given free c.at.ensures in
    c.in_ok-emit_argument.ensures
    ∙ ap (λ l. l ++ bytes_of (pin_rows j given)) c.loop-j.invariant
    ∙ append_assoc c.args.code.now.items (bytes_of before) (bytes_of (pin_rows j given))
    ∙ ap (λ l. c.args.code.now.items ++ (bytes_of before ++ bytes_of l)) (ap (pin_rows j) (sym found))
    ∙ ap (λ l. c.args.code.now.items ++ l) (sym (pin_next encoded f j))
