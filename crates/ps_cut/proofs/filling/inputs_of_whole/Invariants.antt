use Rattle.std.proofs.Common.{◌≡◌, ◌<◌, ℕ, Bool, Some, length}
use Rattle.std.specs.Prelude.{slice_get}
use Rattle.ps_cut.specs.Filling.{filled}
use Rattle.ps_cut.proofs.filling.inputs_of_whole.Given as goal

abbrev pub invariant-loop-s : goal.invariant-loop-s
invariant-loop-s l = record {
  each : length l.values.items ≡ l.s;
  value : (s : ℕ) (other : Bool) → s < l.s → slice_get l.filling s ≡ Some other → slice_get l.values.items s ≡ Some (filled l.part.origins.items l.scan.values.items s other);
}
