use Rattle.std.proofs.Common.{◌++◌, ap, sym, ◌∙◌, arith, append_assoc}
use Rattle.std.specs.List.{flat_map, range_with_len}
use Rattle.std.proofs.lemmas.Option.{get_or_from_slice_get}
use Rattle.ps_model.specs.Action.{free}
use Rattle.ps_model.specs.Args.{actual}
use Rattle.ps_model.specs.Scanning.{pin_at}
use Rattle.ps_model.proofs.Budgeting.{boolean_within}
use Rattle.ps_machine.proofs.Encoding.{pin_next}
use Rattle.ps_stackvm.specs.Code.{encoded, bytes_of, pin_code, code_at_pin}
use Rattle.ps_stackgen.proofs.image.emit_pins.Goals as goal

pub free_value-requires : goal.free_value-requires
free_value-requires c = omega (arith, boolean_within c.args.kind, c.boolean_count-j-end.ensures.count, c.loop-j-test.true)

pub at-requires : goal.at-requires
at-requires c = omega (arith, boolean_within c.args.kind, c.boolean_count-j-end.ensures.count, c.loop-j-test.true, c.requires)

pub loop-j-preserved : goal.loop-j-preserved
loop-j-preserved c =
    let j = c.loop-j.j in
    let f = code_at_pin c.args.kind c.args.args.now in
    let before = flat_map f (range_with_len 0 j) in
    let given = actual c.at.result.now in
    let found = get_or_from_slice_get c.args.args.now j given free c.at.ensures in
    c.in_ok-emit_pin.ensures
    ∙ ap (λ l. l ++ bytes_of (pin_code c.free_value.result given)) c.loop-j.invariant
    ∙ append_assoc c.args.code.now.items (bytes_of before) (bytes_of (pin_code c.free_value.result given))
    ∙ ap (λ l. c.args.code.now.items ++ (bytes_of before ++ bytes_of l))
    (ap (λ b. pin_code b given) c.free_value.ensures ∙ ap (pin_code (pin_at c.args.kind j).free) (sym found))
    ∙ ap (λ l. c.args.code.now.items ++ l) (sym (pin_next encoded f j))
