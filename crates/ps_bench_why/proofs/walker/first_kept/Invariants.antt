use Rattle.std.proofs.Common.{◌≡◌, ℕ, Some, length}
use Rattle.std.specs.Prelude.{slice_get}
use Rattle.ps_why.specs.Keeping.{IsKeptFor}
use Rattle.ps_why.specs.declared.keeping.Stepped.{Stepped}
use Rattle.ps_bench_why.proofs.walker.first_kept.Given as goal

abbrev pub invariant-loop-i : goal.invariant-loop-i
invariant-loop-i l = record {
  each : length l.kept.items ≡ l.i;
  are : (j : ℕ) (s : Stepped) → slice_get l.kept.items j ≡ Some s → IsKeptFor l.app j s;
}
