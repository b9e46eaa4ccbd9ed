use Rattle.std.proofs.Common.{◌≡◌, ◌∙◌, ◌*◌, length, drop, ap, arith, length-drop}
use Rattle.std.proofs.lemmas.List.{length-take-le}
use Rattle.ps_machine.specs.Bytes.{replaced}
use Rattle.ps_machine.proofs.Lent.{part_is, written_at}
use Rattle.ps_eqvm.specs.Restoring.{counted_block}
use Rattle.ps_eqvm.proofs.counting.count_instance.Goals as goal

pub returns : goal.returns
returns c =
    let blocks = c.args.blocks.now in
    let at = 16 * c.args.i in
    let part = part_is blocks at in
    let long : length c.count_block.new.bytes ≡ 16 = c.count_block.auto.bytes ∙ ap length part ∙ length-take-le 16 (drop at blocks) (omega (arith, length-drop at blocks, c.requires)) in
    written_at blocks c.count_block.new.bytes at long
    ∙ ap (replaced blocks at) (c.count_block.ensures ∙ ap (counted_block c.args.limit c.args.now) part)
