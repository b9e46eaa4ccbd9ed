use Rattle.std.proofs.Common.{◌≡◌, take}
use Rattle.std.specs.Int.{w64, to_be_bytes}
use Rattle.ps_machine.specs.Bytes.{replaced}
use Rattle.ps_eqvm.proofs.kept.put_eight.Given as goal

abbrev pub invariant-loop-i : goal.invariant-loop-i
invariant-loop-i l = l.bytes ≡ replaced l.initial.bytes l.at (take l.i (to_be_bytes w64 l.number))
