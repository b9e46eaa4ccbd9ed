use Rattle.std.proofs.Common.{◌≡◌, ◌++◌, take}
use Rattle.ps_text.specs.Escaping.{escaped}
use Rattle.ps_text.proofs.escaping.add_escaped.Given as goal

abbrev pub invariant-loop-byte : goal.invariant-loop-byte
invariant-loop-byte l = l.text ≡ l.initial.text ++ escaped (take l.byte-index l.value)
