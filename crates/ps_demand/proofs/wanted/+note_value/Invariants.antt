use Rattle.std.proofs.Common.{◌≡◌, ℕ, ◌<◌, length, map, drop}
use Rattle.ps_model.specs.Exprs.{formula, operands}
use Rattle.ps_model.specs.FirstSteps.{step_noted, with_step}
use Rattle.ps_model.specs.Values.{reads, some_reads}
use Rattle.ps_demand.proofs.wanted.+note_value.Given as goal

abbrev pub decreases-note_value : goal.decreases-note_value
decreases-note_value l = goal.size-note_value l

-- what was noted, and the operands that are left
abbrev pub invariant-loop-x : goal.invariant-loop-x
invariant-loop-x l = record {
  long : length l.last.items ≡ length l.fn.last.items;
  rest : (n : ℕ) → n < length l.fn.last.items →
      with_step (some_reads n (operands (map formula (drop l.x-index l.x-items)))) l.k (step_noted l.last.items n)
      ≡ with_step (reads n (formula l.fn.value)) l.k (step_noted l.fn.last.items n);
}
