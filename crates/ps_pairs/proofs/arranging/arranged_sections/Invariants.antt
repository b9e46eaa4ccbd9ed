use Rattle.std.proofs.Common.{◌≡◌}
use Rattle.std.specs.List.{flat_map, range_with_len}
use Rattle.ps_pairs.specs.Arranging.{is_shared_at, taken}
use Rattle.ps_pairs.proofs.arranging.arranged_sections.Given as goal

abbrev pub invariant-loop-s : goal.invariant-loop-s
invariant-loop-s l = l.written ≡ flat_map (λ s. taken (is_shared_at l.app s) l.sections) (range_with_len 0 l.s)
