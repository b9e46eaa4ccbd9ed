use Rattle.std.proofs.Common.{◌≡◌, ℕ, ◌<◌, length, drop}
use Rattle.std.specs.List.{flat_map, list_any}
use Rattle.ps_model.specs.FirstSteps.{step_noted, with_step}
use Rattle.ps_model.specs.Values.{reads, values_at_pin}
use Rattle.ps_demand.proofs.wanted.note_args.Given as goal

-- what was noted, and the arguments that are left
abbrev pub invariant-loop-j : goal.invariant-loop-j
invariant-loop-j l = record {
  long : length l.last.items ≡ length l.fn.last.items;
  rest : (n : ℕ) → n < length l.fn.last.items →
      with_step (list_any (reads n) (flat_map values_at_pin (drop l.j l.args))) l.k (step_noted l.last.items n)
      ≡ with_step (list_any (reads n) (flat_map values_at_pin l.args)) l.k (step_noted l.fn.last.items n);
}
