use Rattle.std.proofs.Common.{◌≡◌, ◌++◌, true, take}
use Rattle.hex.specs.Hex.{encode_lower}
use Rattle.ps_bench_cases.proofs.point.hold_bytes.Given as goal

abbrev pub invariant-loop-byte : goal.invariant-loop-byte
invariant-loop-byte l = l.done ≡ true → (l.fn.whole ≡ true) × (l.lines ≡ l.initial.lines ++ encode_lower (take l.byte-index l.bytes))
