-- The rows of the results of files.
use Rattle.std.specs.Prelude.{List}
use Rattle.std.specs.List.{flat_map}
use Rattle.ps_bench_report.specs.declared.page.Piece.{Piece}
use Rattle.ps_bench_report.specs.CaseRows.{case_row}
use Rattle.ps_bench_test.specs.Testing.{FileRan}
use Rattle.ps_bench_test.specs.Outcome.{Ran}

-- the rows of cases that were run, in their order
abbrev pub cases_rows : List Ran → List Piece
cases_rows rs = flat_map case_row rs

-- the rows of the cases of files
abbrev pub files_rows : List FileRan → List Piece
files_rows fs = flat_map (λ (f : FileRan). cases_rows f.ran) fs
