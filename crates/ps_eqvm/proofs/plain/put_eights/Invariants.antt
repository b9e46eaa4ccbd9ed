use Rattle.std.proofs.Common.{◌≡◌, ◌-◌, ◌≤◌, length, take}
use Rattle.std.specs.Prelude.{map}
use Rattle.ps_machine.specs.Bytes.{bit, replaced}
use Rattle.ps_eqvm.proofs.plain.put_eights.Given as goal

-- the first values stand in their cells
abbrev pub invariant-loop-done : goal.invariant-loop-done
invariant-loop-done l = record {
  within : l.done ≤ length l.values;
  cells : l.cells ≡ replaced l.fn.cells l.at (map bit (take l.done l.values));
}

abbrev pub decreases-loop-done : goal.decreases-loop-done
decreases-loop-done l = length l.values - l.done
