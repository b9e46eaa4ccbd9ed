use Rattle.ps_demand.specs.Passes.{AreOutputs}
use Rattle.ps_demand.proofs.slimming.slim_outputs.Given as goal

abbrev pub invariant-loop-j : goal.invariant-loop-j
invariant-loop-j l = AreOutputs l.fn.app l.fn.k l.fn.counts l.fn.rows l.fn.kind l.fn.args l.j l.outputs.items
