use Rattle.ps_bench_cover.proofs.Fitting.{places_are}
use Rattle.ps_bench_cover.proofs.laws.places_are_of_operands.Goals as goal

pub returns : goal.returns
returns c = places_are
