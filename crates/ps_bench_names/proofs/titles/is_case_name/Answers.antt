use Rattle.std.proofs.Common.{◌≡◌, ◌==◌, ◌∙◌, ℕ, List, false, length, ap, arith}
use Rattle.std.specs.List.{list_all}
use Rattle.std.specs.Str.{chars}
use Rattle.std.proofs.lemmas.Grind.{common_steps}
use Rattle.ps_bench_names.specs.Titles.{may_stand}
use Rattle.ps_bench_names.proofs.CaseNames.{name_by_chars, no_name}
use Rattle.ps_bench_names.proofs.titles.is_case_name.Goals as goal

pub returns-in-Ok : goal.returns-in-Ok
returns-in-Ok c =
    let name = c.args.name.now in
    let some : (length name == 0) ≡ false = grind (arith, common_steps) in
    c.may_all_stand.ensures ∙ ap (λ (bytes : List ℕ). list_all may_stand (chars bytes)) c.in-Ok.ensures.cases.0 ∙ name_by_chars name some c.in-Ok.ensures.cases.1

pub returns-in-Err : goal.returns-in-Err
returns-in-Err c = no_name c.args.name.now c.in-Err.ensures.cases.0
