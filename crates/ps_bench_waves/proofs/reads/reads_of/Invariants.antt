use Rattle.std.proofs.Common.{take}
use Rattle.ps_bench_waves.specs.Reads.{AreReadsOf}
use Rattle.ps_bench_waves.proofs.reads.reads_of.Given as goal

-- those of the parts so far
abbrev pub invariant-loop-part : goal.invariant-loop-part
invariant-loop-part l = AreReadsOf l.app l.reads.items (take l.part-index l.parts)
