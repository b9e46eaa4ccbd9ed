use Rattle.std.proofs.Common.{◌≡◌, ℕ, ◌<◌, ◌&&◌, not, length, drop}
use Rattle.std.specs.List.{flat_map, list_any}
use Rattle.ps_model.specs.FirstSteps.{step_noted, with_step}
use Rattle.ps_model.specs.Network.{drives}
use Rattle.ps_model.specs.Steps.{action}
use Rattle.ps_model.specs.Values.{reads, values_at_pin}
use Rattle.ps_notes.proofs.readers.note_args.Given as goal

-- what was noted, and the arguments that are left
abbrev pub invariant-loop-j : goal.invariant-loop-j
invariant-loop-j l = record {
  long : length l.readers ≡ length l.fn.readers;
  rest : (n : ℕ) → n < length l.fn.readers →
      with_step (list_any (reads n) (flat_map values_at_pin (drop l.j l.args)) && not (drives l.app n (action l.step))) l.k (step_noted l.readers n)
      ≡ with_step (list_any (reads n) (flat_map values_at_pin l.args) && not (drives l.app n (action l.step))) l.k (step_noted l.fn.readers n);
}
