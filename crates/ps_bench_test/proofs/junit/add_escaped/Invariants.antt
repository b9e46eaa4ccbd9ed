use Rattle.std.proofs.Common.{◌≡◌, ◌++◌, take}
use Rattle.ps_bench_test.specs.Junit.{xml_escaped}
use Rattle.ps_bench_test.proofs.junit.add_escaped.Given as goal

abbrev pub invariant-loop-byte : goal.invariant-loop-byte
invariant-loop-byte l = l.text ≡ l.initial.text ++ xml_escaped (take l.byte-index l.bytes)
