-- What `report` writes of an application and of case files, and how it stops.
use Rattle.std.specs.Prelude.{◌≡◌, ◌⊎◌, ℕ, Bool, IsTrue, List, [], Any, Option, Some, Result, Ok, Err, option_map}
use Rattle.ps_bench_frame.specs.Opening.{IsOfApp, Source, source}
use Rattle.ps_bench_frame.specs.Refusing.{refused_line}
use Rattle.ps_bench_frame.specs.Stopping.{StopsAtApp, StopsAtCases, StopsIn, Took, TookNothing}
use Rattle.ps_bench_frame.specs.declared.ending.Status.{Status}
use Rattle.ps_bench_frame.specs.declared.ending.Status.TheVariants.{Done}
use Rattle.ps_bench_frame.specs.declared.ending.Stop.{Stop}
use Rattle.ps_bench_frame.specs.declared.ending.Stop.TheVariants.{NoMemory}
use Rattle.ps_model.specs.Network.{Network}
use Rattle.ps_model.specs.declared.channel.ImageSizes.{ImageSizes}
use Rattle.ps_bench_words.specs.Seen.{seen}
use Rattle.ps_bench_words.specs.declared.asking.Format.TheVariants.{Text}
use Rattle.ps_bench_report.specs.Contents.{page_pieces, title_text}
use Rattle.ps_bench_report.specs.Covered.{IsCoverageOf}
use Rattle.ps_bench_report.specs.Digests.{AreDigests, file_rows}
use Rattle.ps_bench_report.specs.Known.{IsKnown}
use Rattle.ps_bench_report.specs.Results.{files_rows}
use Rattle.ps_bench_report.specs.Sections.{HaveFileSections, cases_of}
use Rattle.ps_bench_report.specs.Telling.{AreTexts}
use Rattle.ps_bench_report.specs.Writing.{written}
use Rattle.ps_bench_report.specs.declared.page.Piece.{Piece}
use Rattle.ps_bench_report.specs.declared.reporting.Asked.{Asked}
use Rattle.ps_bench_report.specs.declared.texts.Texts.{Texts}
use Rattle.ps_bench_frame.specs.Sourcing.{IsSourceOf}
use Rattle.ps_bench_test.specs.Testing.{AreRanFiles, FileRan, tally_of_files}
use Rattle.ps_bench_test.specs.Outcome.{none_told}
use Rattle.ps_bench_test.specs.Report.{foot_text}
use Rattle.ps_bench_trials.specs.Naming.{digest_text}
use Rattle.ps_parser.specs.Tree.{SourceTree}

-- The text is that of these pieces, one after another, each of which is the program's own or a value that is escaped.
abbrev pub IsPageOf : (pieces : List Piece) → (text : List ℕ) → Type 0
IsPageOf pieces text = text ≡ written pieces

-- What a report is asked: the name of the application, those of the case files, and the title, where one is given.
pub record Wanted : Type 0 where
  pub app : List ℕ
  pub names : List (List ℕ)
  pub title : Option (List ℕ)

-- what is asked by a call
abbrev pub wanted_by : Asked → Wanted
wanted_by asked = record {
  app = asked.app.now;
  names = seen asked.cases.now;
  title = option_map (λ text. text.now) asked.title;
}

-- The text is the report of an application of this name and of the files of these names: all of their cases were run,
-- the rows of its results are theirs, with their total, and so are the parts of the cases, each with its timing diagram.
-- Around them stand the title, the SHA-256 of each file, the source, the notes, the demands, the coverage and what is
-- claimed. The coverage and the diagrams are those of the runs that the cases mean, if the files tell what they hold.
pub record IsReport (from : Source) (wanted : Wanted) (text : List ℕ) : Type 0 where
  pub files : List FileRan
  pub ran : AreRanFiles from wanted.app wanted.names files
  pub digests : List (List ℕ)
  pub named : AreDigests from wanted.names digests
  pub sections : List Piece
  pub drawn : HaveFileSections (IsKnown from.tells) 0 files [] sections
  pub source : List ℕ
  pub held : IsTrue from.tells → from.held wanted.app ≡ Some source
  pub tree : SourceTree
  pub of_source : IsTrue from.tells → IsSourceOf from.held wanted.app tree
  pub told : Texts
  pub are : AreTexts from.net tree wanted.app source told
  pub coverage : IsCoverageOf (IsKnown from.tells) from.net tree (cases_of files) told.coverage
  pub is : IsPageOf (page_pieces (title_text wanted.title wanted.app) wanted.app (digest_text source)
      (foot_text Text (tally_of_files none_told files)) (file_rows wanted.names digests) (files_rows files) sections told) text

-- How a call stops with the application: memory runs out, and nothing was written; without the cases of a file; or in
-- the report that it writes.
abbrev pub StopsWith : Source → Wanted → (tells : Bool) → (before after : List ℕ) → Stop → Type 0
StopsWith from wanted tells before after stop =
    ((stop ≡ NoMemory) × TookNothing tells before after)
    ⊎ Any (λ (name : List ℕ). StopsAtCases from name refused_line stop tells before after) wanted.names
    ⊎ ((text : List ℕ) × IsReport from wanted text × StopsIn text stop tells before after)

-- How a call ends that has the application: all was done, and the report was written; or it stops.
abbrev pub Ends : Source → Wanted → (tells : Bool) → (before after : List ℕ) → Result Status Stop → Type 0
Ends from wanted tells before after (Ok status) =
    (status ≡ Done) × (text : List ℕ) × IsReport from wanted text × Took text tells before after
Ends from wanted tells before after (Err stop) = StopsWith from wanted tells before after stop

-- What `report` answers that is asked so.
abbrev pub AnswersReport : Wanted → (reading : Bool) → (held : List ℕ → Option (List ℕ)) → (tells : Bool) →
    (before after : List ℕ) → Status → Type 0
AnswersReport wanted reading held tells before after status =
    (net : Network) × (sizes : ImageSizes) × IsOfApp (source net sizes reading held) wanted.app
    × Ends (source net sizes reading held) wanted tells before after (Ok status)

-- How `report` stops before all is done: without the application, or with it.
abbrev pub StopsReport : Wanted → (reading : Bool) → (held : List ℕ → Option (List ℕ)) → (tells : Bool) →
    (before after : List ℕ) → Stop → Type 0
StopsReport wanted reading held tells before after stop =
    StopsAtApp reading held wanted.app stop tells before after
    ⊎ ((net : Network) × (sizes : ImageSizes) × IsOfApp (source net sizes reading held) wanted.app
    × Ends (source net sizes reading held) wanted tells before after (Err stop))
