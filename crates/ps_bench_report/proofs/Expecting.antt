-- What statements expect, one after another.
use Rattle.std.proofs.Common.{◌≡◌, ◌∙◌, ◌++◌, List, map, ap}
use Rattle.std.proofs.lemmas.List.{map-append}
use Rattle.std.proofs.lemmas.List.Elements.{filter_map-append}
use Rattle.ps_bench_cases.specs.Meant.{expected_by, expected_in}
use Rattle.ps_bench_cases.specs.declared.case.Statement.{Statement}
use Rattle.ps_bench_judge.specs.declared.checks.Failure.{Failure}
use Rattle.ps_bench_report.specs.Marks.{mark_of, marks_in}

expected-append : (xs ys : List Statement) → expected_in (xs ++ ys) ≡ expected_in xs ++ expected_in ys
expected-append xs ys = filter_map-append (λ (s : Statement). expected_by s.line s.act) xs ys

pub marks-append : (failures : List Failure) (xs ys : List Statement) → marks_in failures (xs ++ ys) ≡ marks_in failures xs ++ marks_in failures ys
marks-append failures xs ys =
    ap (map (mark_of failures)) (expected-append xs ys) ∙ map-append (mark_of failures) (expected_in xs) (expected_in ys)
