-- How calls of `test` and of `expand` stop before all is done.
use Rattle.std.specs.Prelude.{◌≡◌, ◌⊎◌, ℕ, Bool, List, ◌∷◌, ◌++◌, Option, take}
use Rattle.ps_bench_frame.specs.Opening.{IsOfApp, IsOfText, Source, source}
use Rattle.ps_bench_frame.specs.Refusing.{refused_line}
use Rattle.ps_bench_frame.specs.Stopping.{StopsAtApp, StopsAtCases, StopsIn}
use Rattle.ps_bench_frame.specs.declared.ending.Stop.{Stop}
use Rattle.ps_bench_words.specs.declared.asking.Format.{Format}
use Rattle.ps_bench_cases.specs.Expanded.{expanded}
use Rattle.ps_bench_cases.specs.declared.case.CaseFile.{CaseFile}
use Rattle.ps_model.specs.Network.{Network}
use Rattle.ps_model.specs.declared.channel.ImageSizes.{ImageSizes}
use Rattle.ps_bench_test.specs.Outcome.{Ran}
use Rattle.ps_bench_test.specs.Report.{head_text, refused_text}
use Rattle.ps_bench_test.specs.Outcome.{none_told}
use Rattle.ps_bench_test.specs.Testing.{AreRan, AreRanFiles, FileRan, file_text, files_text, tally_of_files, test_text}
use Rattle.ps_bench_test.specs.declared.outcome.Tally.{Tally}

-- How a call of `expand` stops: without its application, without its cases, or in the trace that it writes.
abbrev pub StopsExpanding : (reading : Bool) (held : List ℕ → Option (List ℕ)) → (app cases : List ℕ) → Stop →
    (tells : Bool) (before after : List ℕ) → Type 0
StopsExpanding reading held app cases stop tells before after =
    StopsAtApp reading held app stop tells before after
    ⊎ ((net : Network) × (sizes : ImageSizes) × IsOfApp (source net sizes reading held) app
    × (StopsAtCases (source net sizes reading held) cases refused_line stop tells before after
    ⊎ ((file : CaseFile) × IsOfText (source net sizes reading held) cases file
    × StopsIn (expanded net file) stop tells before after)))

-- Cases of a file of this name were run, from the first one on, and a call stops in what it tells of them, after as
-- many other cases.
abbrev pub StopsRunning : Network → (app : List ℕ) → Format → Tally → (name : List ℕ) → CaseFile → Stop →
    (tells : Bool) (before after : List ℕ) → Type 0
StopsRunning net app format t name file stop tells before after =
    (ran : ℕ) × (rs : List Ran) × AreRan net app name file (take ran file.cases) rs
    × StopsIn (file_text format t (record { name = name; file = file; ran = rs })) stop tells before after

-- How a call of `test` stops in the file of this name, after as many cases of other files: without its cases, or with
-- some of them run.
abbrev pub StopsInFile : Source → (app : List ℕ) → Format → Tally → (name : List ℕ) → Stop →
    (tells : Bool) (before after : List ℕ) → Type 0
StopsInFile from app format t name stop tells before after =
    StopsAtCases from name (refused_text format name) stop tells before after
    ⊎ ((file : CaseFile) × IsOfText from name file × StopsRunning from.net app format t name file stop tells before after)

-- How it stops among files: in one of them, after others all cases of which were run and told.
abbrev pub StopsAmong : Source → (app : List ℕ) → Format → (names : List (List ℕ)) → Stop →
    (tells : Bool) (before after : List ℕ) → Type 0
StopsAmong from app format names stop tells before after =
    (done left : List (List ℕ)) × (name : List ℕ) × (names ≡ done ++ name ∷ left)
    × (fs : List FileRan) × AreRanFiles from app done fs
    × StopsInFile from app format (tally_of_files none_told fs) name stop tells
    (before ++ files_text format none_told fs) after

-- How it stops with its application: in what stands before all results, among its files, or after them.
abbrev pub StopsTold : Source → (app : List ℕ) → Format → (names : List (List ℕ)) → Stop →
    (tells : Bool) (before after : List ℕ) → Type 0
StopsTold from app format names stop tells before after =
    StopsIn (head_text format) stop tells before after
    ⊎ StopsAmong from app format names stop tells (before ++ head_text format) after
    ⊎ ((fs : List FileRan) × AreRanFiles from app names fs × StopsIn (test_text format fs) stop tells before after)

-- How a call of `test` stops: without its application, or with it.
abbrev pub StopsTesting : (reading : Bool) (held : List ℕ → Option (List ℕ)) → (app : List ℕ) →
    (cases : List (List ℕ)) → Format → Stop → (tells : Bool) (before after : List ℕ) → Type 0
StopsTesting reading held app cases format stop tells before after =
    StopsAtApp reading held app stop tells before after
    ⊎ ((net : Network) × (sizes : ImageSizes) × IsOfApp (source net sizes reading held) app
    × StopsTold (source net sizes reading held) app format cases stop tells before after)
