use Rattle.std.proofs.Common.{◌≡◌, ℕ, ◌<◌, length, take}
use Rattle.std.specs.Prelude.{position}
use Rattle.ps_model.specs.FirstSteps.{step_noted}
use Rattle.ps_model.specs.Network.{signal_count}
use Rattle.ps_notes.specs.Notes.{is_reader}
use Rattle.ps_notes.proofs.readers.first_readers.Given as goal

-- the first readers among the steps so far
abbrev pub invariant-loop-k : goal.invariant-loop-k
invariant-loop-k l = record {
  each : length l.readers.items ≡ signal_count l.app;
  first : (s : ℕ) → s < signal_count l.app → step_noted l.readers.items s ≡ position (is_reader l.app s) (take l.k l.app.steps);
}
