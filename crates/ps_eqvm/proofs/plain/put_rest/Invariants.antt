use Rattle.std.proofs.Common.{◌≡◌, ◌+◌, ◌≤◌, ℕ, List, length, take}
use Rattle.std.specs.Prelude.{map}
use Rattle.ps_machine.specs.Bytes.{bit, replaced}
use Rattle.ps_eqvm.proofs.plain.put_rest.Given as goal

-- the first values stand in their cells
abbrev pub invariant-loop-i : goal.invariant-loop-i
invariant-loop-i l = record {
  size : length l.cells ≡ length l.initial.cells;
  cells : (c : List ℕ) → l.at + length l.values ≤ length c → l.initial.cells ≡ replaced c l.at (map bit (take l.done l.values)) → l.cells ≡ replaced c l.at (map bit (take l.i l.values));
}
