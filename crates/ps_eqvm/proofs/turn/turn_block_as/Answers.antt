use Rattle.std.proofs.Common.{◌+◌, ◌*◌, ◌≤◌, cond, length, Option, ap, ◌∙◌, sym, arith}
use Rattle.std.specs.Prelude.{slice_index, nat_le}
use Rattle.ps_model.specs.declared.kind.Kind.{Kind}
use Rattle.ps_machine.specs.Bytes.{be2, be4}
use Rattle.ps_eqvm.specs.Plain.{Plain}
use Rattle.ps_eqvm.specs.Rows.{operands}
use Rattle.ps_eqvm.specs.Acting.{trapped, pin_bytes, block_by, after_block}
use Rattle.ps_eqvm.specs.declared.trap.Trap.TheVariants.{NoInstance}
use Rattle.ps_eqvm.proofs.Blocks.{block_cut, block_whole}
use Rattle.ps_eqvm.proofs.turn.turn_block_as.Goals as goal

pub returns-then-room-size : goal.returns-then-room-size
returns-then-room-size g c =
    c.trap.ensures ∙ block_cut c.args.signals c.args.instances c.args.at c.args.code.now c.args.plain.now (omega (arith, c.if-room-size.true, c.requires.begun))

pub returns : goal.returns
returns g c =
    let a = c.args in
    let p = a.plain.now in
    let code = a.code.now in
    let count = slice_index code (a.at + 10) in
    let instance = be2 code (a.at + 1) in
    let pins = operands code (a.at + 11) count in
    let whole : a.at + (11 + 2 * count) ≤ length code = omega (arith, c.if-room-size.false, c.requires.begun) in
    let by : Option Kind → Plain =
    λ o. cond (nat_le a.instances instance) (trapped NoInstance p) (block_by a.signals instance (be2 code (a.at + 4)) (be4 code (a.at + 6)) o (pin_bytes a.signals p.cells pins) (a.at + (11 + 2 * count)) p) in
    c.block.ensures
    ∙ (λ x. after_block a.signals a.instances (c.number_in_two.ensures x) g.row.NUMBER (c.number_in_two-2.ensures x) (c.number_in_four.ensures x) pins (a.at + (11 + 2 * c.from.ensures x)) p)
    ∙ ap by (sym c.requires.number)
    ∙ block_whole a.signals a.instances a.at code p c.requires.here whole
