use Rattle.std.proofs.Common.{◌≡◌, ◌+◌, ◌<◌, ℕ, Some}
use Rattle.std.specs.Prelude.{slice_get}
use Rattle.ps_cut.specs.declared.part.Origin.TheVariants.{Now}
use Rattle.ps_cut.proofs.checking.has_outputs.Given as goal

abbrev pub invariant-loop-o : goal.invariant-loop-o
invariant-loop-o l = (o : ℕ) → o < l.o → slice_get l.origins (l.read + o) ≡ Some (Now (l.of + o))
