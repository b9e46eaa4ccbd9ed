use Rattle.std.proofs.Common.{◌≡◌, ◌++◌, take, flat_map}
use Rattle.ps_bench_waves.specs.Declarations.{closing_byte}
use Rattle.ps_bench_waves.proofs.header.add_dots.Given as goal

-- the dots so far
abbrev pub invariant-loop-byte : goal.invariant-loop-byte
invariant-loop-byte l = l.text ≡ l.initial.text ++ flat_map closing_byte (take l.byte-index l.names)
