-- The parts of the cases in a report: what is told of each, and its timing diagram.
use Rattle.std.specs.Prelude.{◌≡◌, ◌⊎◌, ℕ, suc, List, [], ◌∷◌, ◌++◌, codes, decimal, min}
use Rattle.std.specs.List.{flat_map}
use Rattle.ps_bench_words.specs.declared.asking.Format.TheVariants.{Text}
use Rattle.ps_bench_cases.specs.Meant.{whole_case}
use Rattle.ps_bench_report.specs.Pieces.{element}
use Rattle.ps_bench_report.specs.declared.names.Tag.TheVariants.{P, Section}
use Rattle.ps_bench_report.specs.declared.page.Piece.{Piece}
use Rattle.ps_bench_report.specs.declared.page.Piece.TheVariants.{End}
use Rattle.ps_bench_report.specs.Sheets.{ShowsDiagram}
use Rattle.ps_bench_report.specs.Played.{IsRecordingOf}
use Rattle.ps_bench_report.specs.CaseRows.{case_front}
use Rattle.ps_bench_report.specs.declared.recording.Recording.{Recording}
use Rattle.ps_bench_test.specs.Report.{case_text}
use Rattle.ps_bench_test.specs.Testing.{FileRan}
use Rattle.ps_bench_test.specs.Outcome.{Ran, none_told}

-- what the pictures of a case are called within the page: by the place of its file among the words, and its line
abbrev pub case_id : (place line : ℕ) → List ℕ
case_id place line = codes "case-" ++ decimal (min place 1000000) ++ codes "-" ++ decimal line

-- A case has its timing diagram: it shows a recording, which is of the run that the case means, if that is known. Its
-- file has this place among the words.
pub record IsDrawn (known : Ran → Type 0) (place : ℕ) (r : Ran) (before after : List Piece) : Type 0 where
  pub recording : Recording
  pub is_of : known r → IsRecordingOf r.net (whole_case r.file r.case) recording
  pub shows : ShowsDiagram r (case_id place r.case.line) recording before after

-- what stands where there is none
abbrev pub no_diagram : List Piece
no_diagram = element P (codes "There is no timing diagram of this case.")

-- A case has its timing diagram. That there is none is said only of a case of which it is not known what it shows.
abbrev pub HasDiagram : (known : Ran → Type 0) → (place : ℕ) → Ran → (before after : List Piece) → Type 0
HasDiagram known place r before after =
    IsDrawn known place r before after ⊎ ((¬ (known r)) × (after ≡ before ++ no_diagram))

-- The part of a case that was run: its name, what `test` tells of it, and its timing diagram.
pub record HasSection (known : Ran → Type 0) (place : ℕ) (r : Ran) (before after : List Piece) : Type 0 where
  pub drawn : List Piece
  pub diagram : HasDiagram known place r (before ++ case_front r.case.name (case_text Text none_told r)) drawn
  pub is : after ≡ drawn ++ End Section ∷ []

-- The parts of cases of a file at this place among the words stand one after another.
abbrev pub HaveSections : (known : Ran → Type 0) → (place : ℕ) → List Ran → (before after : List Piece) → Type 0
HaveSections known place [] before after = after ≡ before
HaveSections known place (r ∷ rs) before after =
    (middle : List Piece) × HasSection known place r before middle × HaveSections known place rs middle after

-- So do those of files, of which the first has this place.
abbrev pub HaveFileSections : (known : Ran → Type 0) → (place : ℕ) → List FileRan → (before after : List Piece) → Type 0
HaveFileSections known place [] before after = after ≡ before
HaveFileSections known place (f ∷ fs) before after =
    (middle : List Piece) × HaveSections known place f.ran before middle
    × HaveFileSections known (suc place) fs middle after

-- the cases of files
abbrev pub cases_of : List FileRan → List Ran
cases_of fs = flat_map (λ (f : FileRan). f.ran) fs
