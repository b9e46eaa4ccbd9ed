-- Apparatus: how calls end that read files, run their cases, and write a page.
use Rattle.std.specs.Prelude.{◌≡◌, ◌⊎◌, ◌≤◌, ◌++◌, ◌∷◌, [], ℕ, Bool, List, Any, Option, Result, Ok, Err, IsErrOf, IsTrue}
use Rattle.ps_bench_frame.specs.Opening.{Source}
use Rattle.ps_bench_frame.specs.Refusing.{refused_line}
use Rattle.ps_bench_frame.specs.Stopping.{StopsAtCases, StopsIn, Took, TookNothing}
use Rattle.ps_bench_frame.specs.declared.sourcing.Sourced.{Sourced}
use Rattle.ps_bench_frame.specs.declared.ending.Status.{Status}
use Rattle.ps_bench_frame.specs.declared.ending.Status.TheVariants.{Done}
use Rattle.ps_bench_frame.specs.declared.ending.Stop.{Stop}
use Rattle.ps_bench_frame.specs.declared.ending.Stop.TheVariants.{NoMemory}
use Rattle.ps_outside.specs.Outside.{Rose}
use Rattle.ps_outside.specs.declared.reading.ReadFail.{ReadFail}
use Rattle.ps_outside.specs.declared.reading.ReadFail.TheVariants.{Fault, Memory}
use Rattle.ps_bench_report.specs.Contents.{back_pieces, cases_front, front_pieces, results_front, title_text}
use Rattle.ps_bench_report.specs.Covered.{CoversCases, IsCoverage}
use Rattle.ps_bench_report.specs.Digests.{AreDigests, file_rows}
use Rattle.ps_bench_report.specs.Known.{IsReadBack}
use Rattle.ps_bench_report.specs.Paged.{Adds, OnWhole, Paged}
use Rattle.ps_bench_report.specs.Results.{cases_rows}
use Rattle.ps_bench_report.specs.Sections.{HaveFileSections, HaveSections, cases_of}
use Rattle.ps_bench_report.specs.Telling.{AreTexts}
use Rattle.ps_bench_report.specs.Writing.{written}
use Rattle.ps_bench_report.specs.declared.running.Pages.{Pages}
use Rattle.ps_bench_report.specs.declared.texts.Texts.{Texts}
use Rattle.ps_bench_trials.specs.Naming.{digest_text}
use Rattle.ps_cover.specs.Tallied.{IsUnseen, IsWhole}
use Rattle.ps_model.specs.Network.{Network}
use Rattle.ps_parser.specs.Tree.{SourceTree}
use Rattle.ps_bench_test.specs.Testing.{AreRanFiles, FileRan, IsRanFile, tally_of}
use Rattle.ps_bench_test.specs.Outcome.{Ran, none_told}
use Rattle.ps_bench_test.specs.Report.{foot_text}
use Rattle.ps_bench_words.specs.declared.asking.Format.TheVariants.{Text}

-- why a call stops whose read failed: this file cannot be read, or memory runs out
abbrev pub stop_by : (unread : Stop) → ReadFail → Stop
stop_by unread Fault = unread
stop_by unread Memory = NoMemory

-- The file of this name was read, or could not be: its count rose then. No count falls, and all else is as it was.
pub record ReadsFile {X : Type 0} (name : List ℕ) (tells tells' : Bool) (held held' : List ℕ → Option (List ℕ))
    (faults faults' : List ℕ → ℕ) (ended : Result X ReadFail) : Type 0 where
  pub reading : tells' ≡ tells
  pub kept : held' ≡ held
  pub reads : (other : List ℕ) → faults other ≤ faults' other
  pub fault : IsErrOf ended Fault → Rose (faults name) (faults' name)

-- The pages of a report of an application of this name and this text, before any file is shown in them.
pub record BeginsPages (net : Network) (title : Option (List ℕ)) (name source : List ℕ) (pages : Pages) : Type 0 where
  pub front : IsTrue pages.front.whole →
      pages.front.pieces ≡ front_pieces (title_text title name) name (digest_text source)
  pub rows : pages.rows.pieces ≡ []
  pub sections : pages.sections.pieces ≡ []
  pub tally : pages.tally ≡ none_told
  pub whole : IsWhole net pages.cover
  pub unseen : IsUnseen pages.cover

-- After what pages show stands what is shown of these cases of a file at this place among the words.
pub record ShowsCases (net : Network) (place : ℕ) (rs : List Ran) (old new : Pages) : Type 0 where
  pub in_front : new.front ≡ old.front
  pub in_rows : Adds old.rows new.rows (cases_rows rs)
  pub in_parts : OnWhole old.sections new.sections (HaveSections IsReadBack place rs)
  pub tally : new.tally ≡ tally_of old.tally rs
  pub covers : CoversCases net rs old.cover new.cover

-- After what pages show stands what is shown of the files of these names, of which the first has this place among the
-- words, and of their cases.
pub record ShowsFiles (from : Source) (place : ℕ) (names : List (List ℕ)) (fs : List FileRan) (old new : Pages) : Type 0 where
  pub digests : List (List ℕ)
  pub named : AreDigests from names digests
  pub in_front : Adds old.front new.front (file_rows names digests)
  pub in_rows : Adds old.rows new.rows (cases_rows (cases_of fs))
  pub in_parts : OnWhole old.sections new.sections (HaveFileSections IsReadBack place fs)
  pub tally : new.tally ≡ tally_of old.tally (cases_of fs)
  pub covers : CoversCases from.net (cases_of fs) old.cover new.cover

-- How a call ends that runs the cases of the file of this name, at this place among the words: all were run, and are shown, and nothing was written;
-- or it stops without the cases.
abbrev pub EndsFile : {X : Type 0} → Source → (app name : List ℕ) → (place : ℕ) → (old new : Pages) → (tells : Bool) →
    (before after : List ℕ) → Result X Stop → Type 0
EndsFile from app name place old new tells before after (Ok done) =
    (after ≡ before) × (f : FileRan) × IsRanFile from app name f × ShowsFiles from place (name ∷ []) (f ∷ []) old new
EndsFile from app name place old new tells before after (Err stop) =
    StopsAtCases from name refused_line stop tells before after

-- The same of a call that runs the cases of the files of these names, one file after another.
abbrev pub EndsFiles : {X : Type 0} → Source → (app : List ℕ) → (names : List (List ℕ)) → (old new : Pages) →
    (tells : Bool) → (before after : List ℕ) → Result X Stop → Type 0
EndsFiles from app names old new tells before after (Ok done) =
    (after ≡ before) × (fs : List FileRan) × AreRanFiles from app names fs × ShowsFiles from 0 names fs old new
EndsFiles from app names old new tells before after (Err stop) =
    Any (λ (name : List ℕ). StopsAtCases from name refused_line stop tells before after) names

-- An application as a report shows it: what stands for it, its flat source, its name and its text.
pub record Subject : Type 0 where
  pub net : Network
  pub tree : SourceTree
  pub name : List ℕ
  pub source : List ℕ

-- of this name
abbrev pub subject_of : Sourced → (name : List ℕ) → Subject
subject_of sourced name = record {
  net = sourced.opened.app;
  tree = sourced.source;
  name = name;
  source = sourced.opened.text;
}

-- The text is that of these pages, one after another, none of which memory ran out for.
pub record IsTextOf (pages : Pages) (between back : Paged) (text : List ℕ) : Type 0 where
  pub front : IsTrue pages.front.whole
  pub rows : IsTrue pages.rows.whole
  pub between_whole : IsTrue between.whole
  pub sections : IsTrue pages.sections.whole
  pub back_whole : IsTrue back.whole
  pub is : text ≡ written (pages.front.pieces ++ pages.rows.pieces ++ between.pieces ++ pages.sections.pieces
      ++ back.pieces)

-- The text is that of a page which goes on from these pages, none of which memory ran out for, with the texts of this
-- application.
pub record MakesPage (of : Subject) (pages : Pages) (text : List ℕ) : Type 0 where
  pub front : IsTrue pages.front.whole
  pub rows : IsTrue pages.rows.whole
  pub sections : IsTrue pages.sections.whole
  pub told : Texts
  pub are : AreTexts of.net of.tree of.name of.source told
  pub coverage : IsCoverage of.net of.tree pages.cover told.coverage
  pub is : text ≡ written ((pages.front.pieces ++ results_front) ++ pages.rows.pieces
      ++ cases_front (foot_text Text pages.tally) ++ pages.sections.pieces ++ back_pieces told)

-- How a call ends that writes such a page: all of it was written; or nothing was, for running out of memory, or a
-- beginning of it.
abbrev pub EndsPage : Subject → Pages → (tells : Bool) → (before after : List ℕ) → Result Status Stop → Type 0
EndsPage of pages tells before after (Ok status) =
    (status ≡ Done) × (text : List ℕ) × MakesPage of pages text × Took text tells before after
EndsPage of pages tells before after (Err stop) =
    ((stop ≡ NoMemory) × TookNothing tells before after)
    ⊎ ((text : List ℕ) × MakesPage of pages text × StopsIn text stop tells before after)
