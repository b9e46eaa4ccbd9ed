-- What a report has from its beginning to its end, besides the rows and the parts of its files and cases.
use Rattle.std.specs.Prelude.{ℕ, List, [], ◌∷◌, ◌++◌, codes, Option, Some, None}
use Rattle.std.specs.List.{flat_map}
use Rattle.ps_bench_report.specs.Files.{file_row, text_part}
use Rattle.ps_bench_report.specs.Pieces.{element, marked}
use Rattle.ps_bench_report.specs.Texts.{claims, no_coverage, no_demands, no_notes, no_source}
use Rattle.ps_bench_report.specs.declared.names.Key.TheVariants.{Scope}
use Rattle.ps_bench_report.specs.declared.names.Tag.TheVariants.{Caption, H1, H2, Li, Main, P, Section, Table, Tbody, Th, Thead}
use Rattle.ps_bench_report.specs.declared.names.Tag.TheVariants.{Title, Tr, Ul}
use Rattle.ps_bench_report.specs.declared.page.Piece.{Piece}
use Rattle.ps_bench_report.specs.declared.page.Piece.TheVariants.{Begin, Body, End, Epilogue, Inside, Prologue}
use Rattle.ps_bench_report.specs.declared.texts.Texts.{Texts}

-- the title: the one that is given, or one by the name of the application
abbrev pub title_text : (given : Option (List ℕ)) → (app : List ℕ) → List ℕ
title_text (Some title) app = title
title_text None app = codes "Report on " ++ app

-- the head of a page with this title, up to its first part
abbrev pub head_pieces : (title : List ℕ) → List Piece
head_pieces title =
    (Prologue ∷ []) ++ element Title title ++ (Body ∷ Begin Main ∷ Inside ∷ []) ++ element H1 title

-- the head of a column
abbrev pub column : (name : List ℕ) → List Piece
column name = marked Th Scope (codes "col") name

-- a part that is a table, with its heading and the heads of its columns, up to its first row
abbrev pub table_front : (heading caption : List ℕ) → (columns : List Piece) → List Piece
table_front heading caption columns =
    ((Begin Section ∷ Inside ∷ []) ++ element H2 heading ++ (Begin Table ∷ Inside ∷ []) ++ element Caption caption
    ++ Begin Thead ∷ Inside ∷ Begin Tr ∷ Inside ∷ [])
    ++ columns ++ End Tr ∷ End Thead ∷ Begin Tbody ∷ Inside ∷ []

-- the end of a part that is a table
abbrev pub table_back : List Piece
table_back = End Tbody ∷ End Table ∷ End Section ∷ []

-- what stands before the rows of the case files: the title, and the row of the application of this name, with the
-- SHA-256 of its text
abbrev pub front_pieces : (title name digest : List ℕ) → List Piece
front_pieces title name digest =
    head_pieces title
    ++ table_front (codes "Files") (codes "The application, and the case files")
    (flat_map column (codes "File" ∷ codes "SHA-256" ∷ []))
    ++ file_row name digest

-- what stands between the rows of the case files and those of the results
abbrev pub results_front : List Piece
results_front =
    table_back
    ++ table_front (codes "Results") (codes "All cases")
    (flat_map column (codes "Case" ∷ codes "Line" ∷ codes "Result" ∷ codes "Scans" ∷ []))

-- what stands between the rows of the results and the parts of the cases: how many cases passed and failed
abbrev pub cases_front : (total : List ℕ) → List Piece
cases_front total =
    (End Tbody ∷ End Table ∷ []) ++ element P total ++ (End Section ∷ Begin Section ∷ Inside ∷ [])
    ++ element H2 (codes "Cases")

-- what is claimed, and what is not
abbrev pub claims_part : List Piece
claims_part =
    (Begin Section ∷ Inside ∷ []) ++ element H2 (codes "What is claimed, and what is not") ++ (Begin Ul ∷ Inside ∷ [])
    ++ flat_map (element Li) claims ++ End Ul ∷ End Section ∷ []

-- the parts that are texts
abbrev pub texts_pieces : Texts → List Piece
texts_pieces t =
    text_part (codes "Application") t.source no_source ++ text_part (codes "Notes") t.notes no_notes
    ++ text_part (codes "Demands") t.demands no_demands ++ text_part (codes "Coverage") t.coverage no_coverage
    ++ claims_part

-- what stands after the parts of the cases
abbrev pub back_pieces : Texts → List Piece
back_pieces t = (End Section ∷ []) ++ texts_pieces t ++ End Main ∷ Epilogue ∷ []

-- a page: the rows of case files, the rows of results and the parts of cases, with what stands before, between and after
-- them
abbrev pub page_pieces : (title name digest total : List ℕ) → (files rows sections : List Piece) → Texts → List Piece
page_pieces title name digest total files rows sections t =
    (front_pieces title name digest ++ files ++ results_front) ++ rows ++ cases_front total ++ sections ++ back_pieces t
