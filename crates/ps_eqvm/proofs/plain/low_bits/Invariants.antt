use Rattle.std.proofs.Common.{◌-◌, drop, length}
use Rattle.ps_eqvm.specs.LowBits.{AreLowBits}
use Rattle.ps_eqvm.proofs.plain.low_bits.Given as goal

-- the last values so far
abbrev pub invariant-loop-j : goal.invariant-loop-j
invariant-loop-j l = AreLowBits (drop (length l.values - l.j) l.values) l.bits
