use Rattle.std.proofs.Common.{◌≡◌, ◌++◌, take}
use Rattle.ps_text.specs.Shown.{shown}
use Rattle.ps_text.proofs.shown.add_shown.Given as goal

abbrev pub invariant-loop-byte : goal.invariant-loop-byte
invariant-loop-byte l = l.message ≡ l.initial.message ++ shown (take l.byte-index l.bytes)
