use Rattle.std.proofs.lemmas.List.Elements.{recursion_from_All}
use Rattle.ps_model.specs.Meaning.{first_state}
use Rattle.ps_model.specs.Scanning.{Solves}
use Rattle.ps_bench_cases.proofs.Shifted.{LeavesAlone, joined_leave}
use Rattle.ps_bench_cases.proofs.laws.cases_mean_the_same_in_one_trace.Goals as goal

pub returns : goal.returns
returns c = λ net file states each.
    joined_leave net file.begin (first_state net) (Solves net) states 0 file.cases (recursion_from_All (LeavesAlone net file.begin (first_state net) (Solves net) states) file.cases each)
