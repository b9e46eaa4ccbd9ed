-- The row of a case that was run.
use Rattle.std.specs.Prelude.{ℕ, Bool, List, [], ◌∷◌, ◌++◌, codes, decimal, if◌then◌else◌}
use Rattle.ps_bench_frame.specs.Pieces.{place_text}
use Rattle.ps_bench_report.specs.Pieces.{element, marked}
use Rattle.ps_bench_report.specs.declared.names.Key.TheVariants.{Class, Scope}
use Rattle.ps_bench_report.specs.declared.names.Tag.TheVariants.{H3, Pre, Section, Td, Th, Tr}
use Rattle.ps_bench_report.specs.declared.page.Piece.{Piece}
use Rattle.ps_bench_report.specs.declared.page.Piece.TheVariants.{Begin, End, Inside}
use Rattle.ps_bench_test.specs.Outcome.{Ran, passes}

-- how a result looks
abbrev pub class_of : (passed : Bool) → List ℕ
class_of passed = if passed then codes "pass" else codes "fail"

-- a result in a word
abbrev pub word_of : (passed : Bool) → List ℕ
word_of passed = if passed then codes "PASS" else codes "FAIL"

-- the row of a case: its name, its place, its result, and how many scans it made
abbrev pub result_row : (name place : List ℕ) → (passed : Bool) → (scans : List ℕ) → List Piece
result_row name place passed scans =
    (Begin Tr ∷ Inside ∷ []) ++ marked Th Scope (codes "row") name ++ element Td place
    ++ marked Td Class (class_of passed) (word_of passed) ++ element Td scans ++ End Tr ∷ []

-- the row of a case that was run
abbrev pub case_row : Ran → List Piece
case_row r = result_row r.case.name (place_text r.name r.case.line) (passes r.outcome) (decimal r.outcome.scans)

-- the beginning of the part of a case: its name, and what is told of it
abbrev pub case_front : (name told : List ℕ) → List Piece
case_front name told = (Begin Section ∷ Inside ∷ []) ++ element H3 name ++ element Pre told
