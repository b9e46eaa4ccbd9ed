use Rattle.std.proofs.Common.{arith}
use Rattle.ps_bench_never.proofs.same_telling.add_met.Goals as goal

pub add_place-requires : goal.add_place-requires
add_place-requires c = omega (arith, c.first_place-place.ensures.within, c.requires.values)

pub add_difference-requires-clause-place : goal.add_difference-requires-clause-place
add_difference-requires-clause-place c = omega (arith, c.first_place-place.ensures.within, c.requires.values)
