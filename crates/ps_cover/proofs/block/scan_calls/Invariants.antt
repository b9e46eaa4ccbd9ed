use Rattle.ps_cover.specs.Blocks.{called_in}
use Rattle.ps_cover.specs.Covering.{AreCalls}
use Rattle.ps_cover.proofs.Listed.{Turned}
use Rattle.ps_cover.proofs.block.scan_calls.Given as goal

abbrev pub invariant-loop-k : goal.invariant-loop-k
invariant-loop-k l = record {
  turned : Turned (called_in l.app l.signals l.passed) l.fn.calls l.calls l.k;
  kept : AreCalls l.app l.calls;
}
