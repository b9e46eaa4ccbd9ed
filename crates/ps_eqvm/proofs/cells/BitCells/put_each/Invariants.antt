use Rattle.std.proofs.Common.{◌≡◌, Bool, List, length, take}
use Rattle.std.specs.Prelude.{map}
use Rattle.ps_machine.specs.Bytes.{bit, replaced}
use Rattle.ps_eqvm.specs.LowBits.{AreLowBits}
use Rattle.ps_eqvm.proofs.cells.BitCells.put_each.Given as goal

abbrev pub invariant-loop-j : goal.invariant-loop-j
invariant-loop-j l = record {
  size : length l.self ≡ length l.initial.self;
  written : (values : List Bool) → length values ≡ l.count → AreLowBits values l.number → l.self ≡ replaced l.initial.self l.i (map bit (take l.j values));
}
