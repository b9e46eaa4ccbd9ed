use Rattle.std.proofs.Common.{◌≡◌, ◌+◌, ◌*◌, ◌-◌, ◌∙◌, length, drop, sym, ap, arith, length-drop}
use Rattle.std.proofs.lemmas.List.{take_all}
use Rattle.ps_machine.proofs.Carrying.{bytes_are}
use Rattle.ps_machine.proofs.frame.Frame.carry_into.Goals as goal

pub returns : goal.returns
returns c =
    let z = c.args.self.now.sizes in
    let cells = c.args.self.now.cells.items in
    let at = c.args.signals_at in
    let lent = c.deref.result.now in
    c.copy_from_slice.ensures.after
    ∙ take_all (length lent - at) (drop at lent) (omega (arith, length-drop at lent))
    ∙ ap (drop at) c.deref.ensures.value
    ∙ sym (bytes_are at (z.signals + 16 * z.instances) cells (omega (arith, c.requires.size, c.requires.room)))
