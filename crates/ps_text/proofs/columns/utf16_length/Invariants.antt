use Rattle.std.proofs.Common.{◌≡◌, ◌≤◌, ◌*◌, take}
use Rattle.ps_text.specs.Columns.{units}
use Rattle.ps_text.proofs.columns.utf16_length.Given as goal

abbrev pub invariant-loop-byte : goal.invariant-loop-byte
invariant-loop-byte l = record {
  small : l.length ≤ 2 * l.byte-index;
  counted : l.length ≡ units (take l.byte-index l.bytes);
}
