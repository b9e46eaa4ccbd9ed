use Rattle.std.proofs.Common.{length, ap, ◌∙◌, arith}
use Rattle.std.proofs.lemmas.List.{with_items_is}
use Rattle.ps_eqvm.proofs.channel.EquationChannel.spoil.Goals as goal

pub invariant_of-self : goal.invariant_of-self
invariant_of-self c =
    let items = with_items_is c.self.inside.code c.overwrite.new.region (omega arith) in
    (c.self.invariant.0, omega (arith, ap length items, c.self.invariant.1), c.self.invariant.2)

pub invariant_of-self-in-Cells : goal.invariant_of-self-in-Cells
invariant_of-self-in-Cells c =
    let sized = c.self.invariant.0 in (
      record { cells = c.overwrite-in-Cells.ensures.cells ∙ sized.cells; blocks = c.overwrite-in-Cells.ensures.blocks ∙ sized.blocks },
      c.self.invariant.1,
      c.self.invariant.2,
    )
