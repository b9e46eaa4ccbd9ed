use Rattle.ps_machine.proofs.Places.{replaced_bit}
use Rattle.ps_decision.proofs.cells.put_bits.Goals as goal

pub loop-i-preserved : goal.loop-i-preserved
loop-i-preserved c =
    replaced_bit c.loop-i.cells c.args.cells.now c.args.at c.loop-i.i c.byte_of.result c.args.values.now c.requires c.loop-i-test.true c.loop-i.invariant c.byte_of.ensures
