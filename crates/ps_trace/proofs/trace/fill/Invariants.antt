use Rattle.std.proofs.Common.{◌≡◌, take, map, length, false, slice_index_or}
use Rattle.ps_trace.proofs.trace.fill.Given as goal

abbrev pub invariant-loop-i : goal.invariant-loop-i
invariant-loop-i l = record {
  size : length l.into.ins ≡ length l.places;
  filled : take l.i l.into.ins ≡ map (λ place. slice_index_or l.values place false) (take l.i l.places);
}
