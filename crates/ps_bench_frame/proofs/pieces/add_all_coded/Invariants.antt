use Rattle.std.proofs.Common.{◌≡◌, ◌++◌, take, flat_map}
use Rattle.ps_bench_frame.specs.Pieces.{coded}
use Rattle.ps_bench_frame.proofs.pieces.add_all_coded.Given as goal

abbrev pub invariant-loop-byte : goal.invariant-loop-byte
invariant-loop-byte l = l.text ≡ l.initial.text ++ flat_map coded (take l.byte-index l.bytes)
