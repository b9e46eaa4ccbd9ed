use Rattle.std.proofs.Common.{◌≡◌, ◌+◌, ◌<◌, ℕ, length}
use Rattle.std.specs.Prelude.{slice_index, slice_index_or}
use Rattle.ps_model.specs.declared.kind.Kind.TheVariants.{Equivalent}
use Rattle.ps_model.specs.Blocks.{output_count}
use Rattle.ps_stackvm.proofs.report.ready_signals.Given as goal

-- those of the instances up to here
abbrev pub invariant-loop-i : goal.invariant-loop-i
invariant-loop-i l = record {
  count : length l.readies.items ≡ l.i;
  each : (k : ℕ) → k < l.i → slice_index l.readies.items k + 2 ≡ slice_index_or l.sizes.first_pins k 0 + output_count (slice_index_or l.sizes.kinds k Equivalent);
}
