use Rattle.ps_model.specs.Meaning.{first_state}
use Rattle.ps_model.specs.Scanning.{Solves}
use Rattle.ps_bench_cases.proofs.Shifted.{leaves_later}
use Rattle.ps_bench_cases.proofs.laws.times_may_be_shifted.Goals as goal

pub returns : goal.returns
returns c = λ net past items ws by runs. leaves_later (first_state net) (Solves net) by items past ws runs
