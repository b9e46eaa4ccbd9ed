use Rattle.std.proofs.Common.{◌≡◌, ℕ, ◌<◌, ◌&&◌, not, length, map, drop}
use Rattle.ps_model.specs.Exprs.{formula, operands}
use Rattle.ps_model.specs.FirstSteps.{step_noted, with_step}
use Rattle.ps_model.specs.Network.{drives}
use Rattle.ps_model.specs.Steps.{action}
use Rattle.ps_model.specs.Values.{reads, some_reads}
use Rattle.ps_notes.proofs.readers.+note_value.Given as goal

abbrev pub decreases-note_value : goal.decreases-note_value
decreases-note_value l = goal.size-note_value l

-- what was noted, and the operands that are left
abbrev pub invariant-loop-x : goal.invariant-loop-x
invariant-loop-x l = record {
  long : length l.readers ≡ length l.fn.readers;
  rest : (n : ℕ) → n < length l.fn.readers →
      with_step (some_reads n (operands (map formula (drop l.x-index l.x-items))) && not (drives l.app n (action l.step))) l.k (step_noted l.readers n)
      ≡ with_step (reads n (formula l.fn.value) && not (drives l.app n (action l.step))) l.k (step_noted l.fn.readers n);
}
