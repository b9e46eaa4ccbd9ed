use Rattle.std.proofs.Common.{◌≡◌, length, take}
use Rattle.ps_machine.specs.Bytes.{replaced}
use Rattle.ps_eqvm.specs.Plain.{laid_out}
use Rattle.ps_eqvm.proofs.plain.PlainCells.write.Given as goal

abbrev pub invariant-loop-i : goal.invariant-loop-i
invariant-loop-i l = record {
  bytes : laid_out l.self ≡ replaced (laid_out l.initial.self) l.at (take l.i l.bytes);
  cells : length l.self.cells ≡ length l.initial.self.cells;
  blocks : length l.self.blocks ≡ length l.initial.self.blocks;
}
