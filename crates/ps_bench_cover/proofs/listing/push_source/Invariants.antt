use Rattle.std.proofs.Common.{◌≡◌, ◌++◌, map, slice_get}
use Rattle.std.specs.List.{flat_map, range_with_len}
use Rattle.ps_bench_cover.specs.Standing.{step_operands}
use Rattle.ps_bench_cover.specs.Operands.{place_of}
use Rattle.ps_bench_cover.proofs.listing.push_source.Given as goal

abbrev pub invariant-loop-step : goal.invariant-loop-step
invariant-loop-step l =
    l.places.items ≡ l.fn.places.items
    ++ flat_map (λ k. map place_of (step_operands l.app k (slice_get l.source.statements k))) (range_with_len 0 l.step)
