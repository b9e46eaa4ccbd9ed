use Rattle.std.proofs.Common.{◌≡◌, ◌++◌, take, flat_map}
use Rattle.ps_bench_waves.specs.Declarations.{opening_byte}
use Rattle.ps_bench_waves.proofs.header.add_names.Given as goal

-- the bytes so far
abbrev pub invariant-loop-byte : goal.invariant-loop-byte
invariant-loop-byte l = l.text ≡ l.initial.text ++ flat_map opening_byte (take l.byte-index l.names)
