-- The table of what changes in a case.
use Rattle.std.specs.Prelude.{ℕ, suc, Bool, false, ◌==◌, List, [], ◌∷◌, ◌++◌, codes, decimal, if◌then◌else◌, Option, Some, None}
use Rattle.ps_model.specs.Network.{Network}
use Rattle.ps_bench_report.specs.Diagram.{change_row, event_of, marks_at, marks_text, value_at}
use Rattle.ps_bench_report.specs.Pieces.{element, marked}
use Rattle.ps_bench_report.specs.declared.marks.Mark.{Mark}
use Rattle.ps_bench_report.specs.declared.names.Key.TheVariants.{Scope}
use Rattle.ps_bench_report.specs.declared.names.Tag.TheVariants.{Caption, Table, Tbody, Th, Thead, Tr}
use Rattle.ps_bench_report.specs.declared.page.Piece.{Piece}
use Rattle.ps_bench_report.specs.declared.page.Piece.TheVariants.{Begin, End, Inside}
use Rattle.ps_bench_report.specs.declared.recording.Moment.{Moment}
use Rattle.ps_bench_names.specs.declared.name.Name.{Name}
use Rattle.ps_bench_test.specs.Naming.{name_text, value_text}

-- the name of this number has the value that it had, if there is a scan before
abbrev pub stays_at : Option Moment → Moment → (number : ℕ) → Bool
stays_at None m number = false
stays_at (Some before) m number = value_at before number == value_at m number

-- what stands between a change and the words before it
abbrev pub separator : (words : List ℕ) → List ℕ
separator [] = []
separator (c ∷ cs) = codes ", "

-- a value of a name after other words, as `S_Ram 1`
abbrev pub with_change : Network → Name → (value : ℕ) → (words : List ℕ) → List ℕ
with_change net name value words =
    words ++ separator words ++ name_text net name ++ codes " " ++ value_text net name value

-- the values of names, of which the first has this number, that are others than in the scan before
abbrev pub changes_from : Network → Option Moment → Moment → (words : List ℕ) → (number : ℕ) → List Name → List ℕ
changes_from net before m words number [] = words
changes_from net before m words number (n ∷ names) =
    changes_from net before m
    (if stays_at before m number then words else with_change net n (value_at m number) words) (suc number) names

-- what happens to the world at a scan, and the values of names that are others than in the one before; of a first scan
-- all values
abbrev pub changes_text : Network → List Name → Option Moment → Moment → List ℕ
changes_text net names before m = changes_from net before m (event_of m) 0 names

-- the row of a scan: its time, what changes, and what is expected
abbrev pub row_of : Network → List Name → List Mark → Option Moment → Moment → List Piece
row_of net names marks before m =
    change_row (decimal m.now) (changes_text net names before m) (marks_text (marks_at m.scan marks))

-- a row for each scan that is shown, in order, after the one before them
abbrev pub rows_from : Network → List Name → List Mark → Option Moment → List Moment → List Piece
rows_from net names marks before [] = []
rows_from net names marks before (m ∷ ms) =
    row_of net names marks before m ++ rows_from net names marks (Some m) ms

-- the head of the table
abbrev pub changes_head : List Piece
changes_head =
    (Begin Table ∷ Inside ∷ []) ++ element Caption (codes "What changes, and what is expected")
    ++ (Begin Thead ∷ Inside ∷ Begin Tr ∷ Inside ∷ []) ++ marked Th Scope (codes "col") (codes "Time in ms")
    ++ marked Th Scope (codes "col") (codes "What changes") ++ marked Th Scope (codes "col") (codes "Expected")
    ++ End Tr ∷ End Thead ∷ Begin Tbody ∷ Inside ∷ []

-- the table of what changes
abbrev pub changes_pieces : Network → List Name → List Mark → List Moment → List Piece
changes_pieces net names marks moments =
    changes_head ++ rows_from net names marks None moments ++ End Tbody ∷ End Table ∷ []
