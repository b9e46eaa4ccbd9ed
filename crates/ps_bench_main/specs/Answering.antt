-- What a call does: one that did what its words ask, and one that stopped before.
use Rattle.std.specs.Prelude.{◌≡◌, ◌⊎◌, ℕ, Bool, IsTrue, List, [], ◌∷◌, ◌++◌, Any, map, Option, Some, None}
use Rattle.ps_bench_words.specs.Asking.{Asked}
use Rattle.ps_bench_words.specs.Asking.Asked.{Test, Expand, Watch, Trace, Why, Cover, Never, Same, Campaign, Live}
use Rattle.ps_bench_words.specs.Asking.Asked.{Sum, Report, Page, NotTaken}
use Rattle.ps_bench_cover.specs.Asking.{AnswersCover, StopsCover, Wanted as Covered}
use Rattle.ps_bench_campaign.specs.Asking as campaigning
use Rattle.ps_bench_campaign.specs.Asking.{AnswersCampaign, StopsCampaign}
use Rattle.ps_bench_campaign.specs.Summing.{AnswersSum, StopsSum}
use Rattle.ps_bench_cases.specs.Expanded.{expanded}
use Rattle.ps_bench_cases.specs.declared.case.CaseFile.{CaseFile}
use Rattle.ps_bench_never.specs.SameAsking.{AnswersSame, StopsSame}
use Rattle.ps_cover.specs.declared.format.Format.{Format}
use Rattle.ps_bench_why.specs.Asking as explaining
use Rattle.ps_bench_why.specs.Asking.{AnswersWhy, StopsWhy}
use Rattle.ps_bench_never.specs.Asking.{AnswersNever, StopsNever}
use Rattle.ps_bench_watch.specs.LiveAsking.{AnswersLive, Fed, StopsLive}
use Rattle.ps_model.specs.Network.{Network}
use Rattle.ps_model.specs.declared.channel.Channel.{Channel}
use Rattle.ps_model.specs.declared.channel.ImageSizes.{ImageSizes}
use Rattle.ps_outside.specs.Outside.{Rose}
use Rattle.ps_bench_report.specs.Asking.{AnswersReport, StopsReport, Wanted as Reported}
use Rattle.ps_bench_test.specs.Stopping.{StopsExpanding, StopsTesting}
use Rattle.ps_bench_test.specs.Testing.{AreRanFiles, FileRan, test_status, test_text}
use Rattle.ps_bench_watch.specs.Tracing.{AnswersTrace, StopsTrace}
use Rattle.ps_bench_watch.specs.Asking.{AnswersWatch, StopsWatch}
use Rattle.ps_bench_watch.specs.Showing.{Wanted}
use Rattle.ps_bench_frame.specs.Ending.{stop_status}
use Rattle.ps_bench_frame.specs.Meant.{file_meant}
use Rattle.ps_bench_frame.specs.Opening.{IsOfApp, IsOfText, source}
use Rattle.ps_bench_frame.specs.Stopping.{Took, TookSome}
use Rattle.ps_bench_frame.specs.declared.ending.Status.{Status}
use Rattle.ps_bench_frame.specs.declared.ending.Status.TheVariants.{Done, Failed, Usage, WriteFault}
use Rattle.ps_bench_frame.specs.declared.ending.Stop.{Stop}
use Rattle.ps_bench_frame.specs.declared.ending.Stop.TheVariants.{Unwritten}

-- the call was not stopped before all was done
abbrev pub IsAnswered : Status → Type 0
IsAnswered status = (status ≡ Done) ⊎ (status ≡ Failed) ⊎ (status ≡ Usage)

-- the run that `watch` is asked for
abbrev pub wanted_of : (trace : List ℕ) (names : List (List ℕ)) (faults : Option (List ℕ)) → Wanted
wanted_of trace names faults = record { trace = trace; words = names; file = faults }

-- what `why` is asked
abbrev pub explained_of : (trace : List ℕ) (time : ℕ) (name : List ℕ) (output : Format) → explaining.Wanted
explained_of trace time name output = record { trace = trace; time = time; name = name; format = output }

-- what `cover` is asked to count
abbrev pub covered_of : (traces : List (List ℕ)) (output : Format) (least : Option ℕ) (ideas : Bool) → Covered
covered_of traces output least ideas = record { traces = traces; format = output; least = least; ideas = ideas }

-- what `campaign` is asked to try
abbrev pub tried_of : (trace : List ℕ) (from count : ℕ) (channel : Option Channel) (print : Bool) → campaigning.Wanted
tried_of trace from count channel print =
    record { trace = trace; from = from; count = count; channel = channel; print = print }

-- what is asked of a page
abbrev pub reported_of : (app : List ℕ) (cases : List (List ℕ)) (title : Option (List ℕ)) → Reported
reported_of app cases title = record { app = app; names = cases; title = title }

-- By what the words ask, over files and a stream that tell what they hold or do not: the status, and what an output
-- that tells took. `test` ran all cases of all of its files, in the order of the words; its status is Done where each
-- passed, and else Failed.
abbrev pub Answers : Asked → Fed → (reading : Bool) (held : List ℕ → Option (List ℕ)) → Status →
    (tells : Bool) → (before after : List ℕ) → Type 0
Answers (Test app cases format) input reading held status tells before after =
    (net : Network) × (sizes : ImageSizes) × IsOfApp (source net sizes reading held) app
    × (fs : List FileRan) × AreRanFiles (source net sizes reading held) app cases fs × (status ≡ test_status fs)
    × (IsTrue tells → after ≡ before ++ test_text format fs)
Answers (Expand app cases) input reading held status tells before after =
    (status ≡ Done) × (net : Network) × (sizes : ImageSizes) × IsOfApp (source net sizes reading held) app
    × (file : CaseFile) × IsOfText (source net sizes reading held) cases file
    × (IsTrue tells → after ≡ before ++ expanded net file)
Answers (Watch app trace names faults layout) input reading held status tells before after =
    AnswersWatch app layout (wanted_of trace names faults) reading held tells before after status
Answers (Trace app csv) input reading held status tells before after =
    (status ≡ Done) × AnswersTrace app csv reading held tells before after
Answers (Why app trace time name output) input reading held status tells before after =
    AnswersWhy app (explained_of trace time name output) reading held tells before after status
Answers (Cover app traces output least ideas) input reading held status tells before after =
    AnswersCover app (covered_of traces output least ideas) reading held tells before after status
Answers (Never app rules states) input reading held status tells before after =
    AnswersNever app rules states reading held tells before after status
Answers (Same app other rules states) input reading held status tells before after =
    AnswersSame app other rules states reading held tells before after status
Answers (Campaign app trace from count channel print) input reading held status tells before after =
    AnswersCampaign app (tried_of trace from count channel print) reading held tells before after status
Answers (Sum files) input reading held status tells before after =
    AnswersSum files reading held tells before after status
Answers (Report app cases title) input reading held status tells before after =
    AnswersReport (reported_of app cases title) reading held tells before after status
Answers (Live app names) input reading held status tells before after =
    AnswersLive app names input reading held tells before after status
Answers (Page text) input reading held status tells before after = (status ≡ Done) × Took text tells before after
Answers NotTaken input reading held status tells before after = (status ≡ Usage) × (IsTrue tells → after ≡ before)

-- By what the words ask: why a call stops before all is done, and what an output that tells took up to there.
abbrev pub Stops : Asked → Fed → (reading : Bool) (held : List ℕ → Option (List ℕ)) → Stop →
    (tells : Bool) → (before after : List ℕ) → Type 0
Stops (Test app cases format) input reading held stop tells before after =
    StopsTesting reading held app cases format stop tells before after
Stops (Expand app cases) input reading held stop tells before after =
    StopsExpanding reading held app cases stop tells before after
Stops (Watch app trace names faults layout) input reading held stop tells before after =
    StopsWatch app layout (wanted_of trace names faults) reading held tells before after stop
Stops (Trace app csv) input reading held stop tells before after =
    StopsTrace app csv reading held tells before after stop
Stops (Why app trace time name output) input reading held stop tells before after =
    StopsWhy app (explained_of trace time name output) reading held tells before after stop
Stops (Cover app traces output least ideas) input reading held stop tells before after =
    StopsCover app (covered_of traces output least ideas) reading held tells before after stop
Stops (Never app rules states) input reading held stop tells before after =
    StopsNever app rules states reading held tells before after stop
Stops (Same app other rules states) input reading held stop tells before after =
    StopsSame app other rules states reading held tells before after stop
Stops (Campaign app trace from count channel print) input reading held stop tells before after =
    StopsCampaign app (tried_of trace from count channel print) reading held tells before after stop
Stops (Sum files) input reading held stop tells before after =
    StopsSum files reading held tells before after stop
Stops (Report app cases title) input reading held stop tells before after =
    StopsReport (reported_of app cases title) reading held tells before after stop
Stops (Live app names) input reading held stop tells before after =
    StopsLive app names input reading held tells before after stop
Stops (Page text) input reading held stop tells before after = (stop ≡ Unwritten) × TookSome text tells before after
Stops NotTaken input reading held stop tells before after = ⊥

-- How a call ended that did not do all: it stopped, which its status tells; or a write failed at the end, where the
-- output handed on what it held back, after that or after all. So much is heard of why.
abbrev pub IsCutOff : Asked → Fed → (reading : Bool) (held : List ℕ → Option (List ℕ)) → Status →
    (tells : Bool) → (before after : List ℕ) → (IsHeardOf : Stop → Type 0) → Type 0
IsCutOff asked input reading held status tells before after IsHeardOf =
    ((stop : Stop) × Stops asked input reading held stop tells before after
    × (((status ≡ stop_status stop) × IsHeardOf stop) ⊎ ((status ≡ WriteFault) × IsHeardOf Unwritten)))
    ⊎ ((all : Status) × Answers asked input reading held all tells before after × (status ≡ WriteFault)
    × IsHeardOf Unwritten)

-- the name of a file, where one is named
abbrev pub file_of : Option (List ℕ) → List (List ℕ)
file_of (Some name) = name ∷ []
file_of None = []

-- the names of the files that a call reads
abbrev pub names_of : Asked → List (List ℕ)
names_of (Test app cases format) = app ∷ cases
names_of (Expand app cases) = app ∷ cases ∷ []
names_of (Watch app trace names faults layout) = app ∷ file_meant trace ∷ file_of faults
names_of (Trace app csv) = app ∷ csv ∷ []
names_of (Why app trace time name output) = app ∷ file_meant trace ∷ []
names_of (Cover app traces output least ideas) = app ∷ map file_meant traces
names_of (Never app rules states) = app ∷ rules ∷ []
names_of (Same app other rules states) = app ∷ other ∷ file_of rules
names_of (Campaign app trace from count channel print) = app ∷ file_meant trace ∷ []
names_of (Sum files) = files
names_of (Report app cases title) = app ∷ cases
names_of (Live app names) = app ∷ []
names_of (Page text) = []
names_of NotTaken = []

-- The count of failed reads rose of what a call reads: of one of its files, or, of `live`, of the stream at its input.
abbrev pub IsUnreadBy : Asked → (reads reads' : List ℕ → ℕ) → (fed fed' : ℕ) → Type 0
IsUnreadBy (Live app names) reads reads' fed fed' = Rose (reads app) (reads' app) ⊎ Rose fed fed'
IsUnreadBy asked reads reads' fed fed' = Any (λ (name : List ℕ). Rose (reads name) (reads' name)) (names_of asked)
