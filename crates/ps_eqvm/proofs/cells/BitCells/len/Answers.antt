use Rattle.std.proofs.Common.{◌≡◌, ap, ◌∙◌, sym, length, rules}
use Rattle.ps_eqvm.proofs.KeptBits.{length-cells}
use Rattle.ps_eqvm.proofs.cells.BitCells.len.Goals as goal

pub returns : goal.returns
returns c =
    let count : c.len.result ≡ length c.self.inside.counted.items = search rules in
    count ∙ sym (length-cells c.self.inside.value.items c.self.inside.odd.items c.self.inside.counted.items) ∙ ap length c.self.view_is
