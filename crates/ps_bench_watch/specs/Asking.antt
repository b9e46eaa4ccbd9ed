-- What `watch` is asked, and what it writes by that.
use Rattle.std.specs.Prelude.{◌≡◌, ◌⊎◌, ℕ, Bool, IsTrue, List, ◌++◌, Option, option_map, Result, Ok, Err}
use Rattle.ps_bench_frame.specs.Ending.{IsOfRun}
use Rattle.ps_bench_frame.specs.Meant.{file_meant}
use Rattle.ps_bench_frame.specs.Opening.{IsOfApp, Source, source}
use Rattle.ps_bench_frame.specs.Refusing.{refused_line}
use Rattle.ps_bench_frame.specs.Stopping.{StopsAtApp, StopsAtCases}
use Rattle.ps_bench_frame.specs.declared.ending.Status.{Status}
use Rattle.ps_bench_frame.specs.declared.ending.Status.TheVariants.{Done, Usage}
use Rattle.ps_bench_frame.specs.declared.ending.Stop.{Stop}
use Rattle.ps_bench_words.specs.Seen.{seen}
use Rattle.ps_bench_words.specs.declared.asking.Layout.{Layout}
use Rattle.ps_bench_words.specs.declared.asking.Layout.TheVariants.{Text as AsText, Csv as AsCsv, Json as AsJson, Vcd}
use Rattle.ps_bench_names.specs.declared.name.Name.{Name}
use Rattle.ps_bench_judge.specs.Runs.{moments_of}
use Rattle.ps_bench_judge.specs.Moments.{Moment}
use Rattle.ps_model.specs.Meaning.{Item, nothing}
use Rattle.ps_model.specs.Network.{Network}
use Rattle.ps_model.specs.Scanning.{State}
use Rattle.ps_model.specs.declared.channel.ImageSizes.{ImageSizes}
use Rattle.ps_outside.specs.Outside.{Rose}
use Rattle.ps_bench_trace.specs.Opening.{RosesIn}
use Rattle.ps_bench_trace.specs.Playing.{LacksCase}
use Rattle.ps_bench_waves.specs.Lines.{head_text}
use Rattle.ps_bench_waves.specs.Names.{all_names, default_names}
use Rattle.ps_bench_waves.specs.Watching.{at_first, items_text}
use Rattle.ps_bench_waves.specs.declared.format.Format.TheVariants.{Text, Csv, Json}
use Rattle.ps_bench_waves.specs.Dumped.{dump_text}
use Rattle.ps_bench_watch.specs.Wires.{dump_head}
use Rattle.ps_bench_watch.specs.Naming.{HasUnnamed}
use Rattle.ps_bench_watch.specs.Showing.{ComesOfRun, Run, Wanted}
use Rattle.ps_bench_watch.specs.declared.watching.Asked.{Asked}
use Rattle.ps_world.specs.Answers.{answers_of_run}
use Rattle.ps_world.specs.Whole.{machines_in}

-- what is wanted of an application
abbrev pub wanted_by : Asked → Wanted
wanted_by asked = record {
  trace = asked.trace.now;
  words = seen asked.names.now;
  file = option_map (λ name. name.now) asked.faults;
}

-- what is watched by default: for a person the outputs and the codes of instances, for a program all
abbrev pub default_in : Network → Layout → List Name
default_in net AsText = default_names net Text
default_in net AsCsv = default_names net Csv
default_in net AsJson = default_names net Json
default_in net Vcd = all_names net

-- what stands before the first scan, where these names are watched
abbrev pub head_in : Network → Layout → List Name → List ℕ
head_in net AsText names = head_text net Text names
head_in net AsCsv names = head_text net Csv names
head_in net AsJson names = head_text net Json names
head_in net Vcd names = dump_head net names

-- what is written of items from the beginning on, of whose scans this is seen
abbrev pub body_in : Network → Layout → List Name → List Item → List Moment → List ℕ
body_in net AsText names items ms = items_text net Text names at_first items ms
body_in net AsCsv names items ms = items_text net Csv names at_first items ms
body_in net AsJson names items ms = items_text net Json names at_first items ms
body_in net Vcd names items ms = dump_text net names items ms

-- what is seen of the scans of a run over items that mean these states: the values that the run releases, as `fault`
-- has it with the same faults, and those that are meant
abbrev pub seen_of_run : Network → Run → List Item → List State → List Moment
seen_of_run net run items ws =
    moments_of net nothing items (answers_of_run net (machines_in run.setup) items run.faults) ws

-- The text of a run over items that mean these states.
abbrev pub text_in : Network → Layout → Run → List Item → List State → List ℕ
text_in net layout run items ws =
    head_in net layout run.names ++ body_in net layout run.names items (seen_of_run net run items ws)

-- a word for what is watched names nothing, or the one for the trace means a line that is in no case
abbrev pub IsUnmeant : Source → Wanted → Type 0
IsUnmeant from wanted =
    ((word : List ℕ) × HasUnnamed from.net wanted.words word) ⊎ LacksCase from wanted.trace

-- What `watch` answers of an application: the run that is wanted was written to the end of its trace; or a word names
-- nothing, or a line that is in no case, and nothing was written.
abbrev pub Answered : Source → Layout → Wanted → (tells : Bool) → (before after : List ℕ) → Status → Type 0
Answered from layout wanted tells before after status =
    ((status ≡ Done)
    × ComesOfRun from (text_in from.net layout) (default_in from.net layout) wanted tells before after (Ok tt))
    ⊎ ((status ≡ Usage) × IsUnmeant from wanted × (IsTrue tells → after ≡ before))

-- what comes of the run where the call stops
abbrev pub StopsIn : Source → Layout → Wanted → (tells : Bool) → (before after : List ℕ) → Stop → Type 0
StopsIn from layout wanted tells before after stop =
    StopsAtCases from (file_meant wanted.trace) refused_line stop tells before after
    ⊎ (IsOfRun stop
    × ComesOfRun from (text_in from.net layout) (default_in from.net layout) wanted tells before after (Err stop))

-- what `watch` answers of an application, or why it stops
abbrev pub AnswersIn : Source → Layout → Wanted → (tells : Bool) → (before after : List ℕ) → Result Status Stop → Type 0
AnswersIn from layout wanted tells before after (Ok status) = Answered from layout wanted tells before after status
AnswersIn from layout wanted tells before after (Err stop) = StopsIn from layout wanted tells before after stop

-- what `watch` answers of the application of this name
abbrev pub AnswersWatch : (app : List ℕ) → Layout → Wanted → (reading : Bool) (held : List ℕ → Option (List ℕ)) →
    (tells : Bool) → (before after : List ℕ) → Status → Type 0
AnswersWatch app layout wanted reading held tells before after status =
    (net : Network) × (sizes : ImageSizes) × IsOfApp (source net sizes reading held) app
    × Answered (source net sizes reading held) layout wanted tells before after status

-- Why `watch` stops before all is done: it gets no application of this name; or none of the cases of the file that the
-- word for the trace names; or the faults or the trace stop it. Where a line of the trace is refused, all was written
-- that comes before it, and then the line of the refusal; where a file cannot be read, a beginning of the text of the
-- run, or nothing.
abbrev pub StopsWatch : (app : List ℕ) → Layout → Wanted → (reading : Bool) (held : List ℕ → Option (List ℕ)) →
    (tells : Bool) → (before after : List ℕ) → Stop → Type 0
StopsWatch app layout wanted reading held tells before after stop =
    StopsAtApp reading held app stop tells before after
    ⊎ ((net : Network) × (sizes : ImageSizes) × IsOfApp (source net sizes reading held) app
    × StopsIn (source net sizes reading held) layout wanted tells before after stop)

-- the count of failed reads rose of the file that the word for the trace names, or of the fault file
abbrev pub IsRisen : Wanted → (reads reads' : List ℕ → ℕ) → Type 0
IsRisen wanted reads reads' =
    Rose (reads (file_meant wanted.trace)) (reads' (file_meant wanted.trace)) ⊎ RosesIn reads reads' wanted.file
