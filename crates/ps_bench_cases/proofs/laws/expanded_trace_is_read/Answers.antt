use Rattle.std.proofs.Common.{flat_map, subst, sym}
use Rattle.std.proofs.lemmas.List.Elements.{recursion_from_All}
use Rattle.ps_model.specs.Meaning.{Meaning, first_state}
use Rattle.ps_model.specs.Scanning.{Solves}
use Rattle.ps_trace.specs.Scans.{Scans}
use Rattle.ps_bench_cases.proofs.Shifted.{LeavesAlone, joined_leave}
use Rattle.ps_bench_cases.proofs.LegibleFiles.{cases_legible}
use Rattle.ps_bench_cases.proofs.TraceBack.{trace_back}
use Rattle.ps_bench_cases.proofs.laws.expanded_trace_is_read.Goals as goal

pub returns-clause-items : goal.returns-clause-items
returns-clause-items c = trace_back

pub returns-clause-legible : goal.returns-clause-legible
returns-clause-legible c = cases_legible

pub returns-clause-means : goal.returns-clause-means
returns-clause-means c = λ net file states sound runs legible each.
    subst (λ (read : Scans). Meaning net read.items (flat_map states file.cases)) (sym (trace_back net file sound runs legible))
    (joined_leave net file.begin (first_state net) (Solves net) states 0 file.cases (recursion_from_All (LeavesAlone net file.begin (first_state net) (Solves net) states) file.cases each))
