-- What `why` is asked, what it writes by that, and how it stops.
use Rattle.std.specs.Prelude.{◌≡◌, ◌⊎◌, ℕ, Bool, IsTrue, List, Option, Some, None, Result, Ok, Err}
use Rattle.ps_bench_trace.specs.Refusing.{StopsAtWord}
use Rattle.ps_bench_frame.specs.Opening.{IsOfApp, Source, source}
use Rattle.ps_bench_frame.specs.Stopping.{StopsAtApp, Took, TookNothing, TookSome}
use Rattle.ps_bench_frame.specs.declared.ending.Status.{Status}
use Rattle.ps_bench_frame.specs.declared.ending.Status.TheVariants.{Done, Usage}
use Rattle.ps_bench_frame.specs.declared.ending.Stop.{Stop}
use Rattle.ps_bench_frame.specs.declared.ending.Stop.TheVariants.{Unwritten, NoMemory}
use Rattle.ps_cover.specs.declared.format.Format.{Format}
use Rattle.ps_model.specs.Meaning.{Meaning}
use Rattle.ps_model.specs.Network.{Network}
use Rattle.ps_model.specs.Scanning.{State}
use Rattle.ps_model.specs.declared.channel.Fault.{Fault}
use Rattle.ps_model.specs.declared.channel.ImageSizes.{ImageSizes}
use Rattle.ps_bench_why.specs.Scanned as scanned
use Rattle.ps_bench_why.specs.Scanned.{Scanned, last_upto}
use Rattle.ps_parser.specs.Tree.{SourceTree}
use Rattle.ps_bench_frame.specs.Sourcing.{IsSourceOf}
use Rattle.ps_bench_names.specs.Names.{name_of}
use Rattle.ps_bench_names.specs.declared.name.Name.{Name}
use Rattle.ps_trace.specs.Scans.{scans_of}
use Rattle.ps_bench_trace.specs.Playing.{IsPlay, LacksCase}
use Rattle.ps_bench_why.specs.Reasoned.{IsReasoned, question_of}
use Rattle.ps_bench_why.specs.declared.explaining.Asked.{Asked}

-- What is wanted of an application: the word in the place of a trace, a time in ms, a name, and how it is written.
pub record Wanted : Type 0 where
  pub trace : List ℕ
  pub time : ℕ
  pub name : List ℕ
  pub format : Format

-- of a call
abbrev pub wanted_by : Asked → Wanted
wanted_by asked = record { trace = asked.trace.now; time = asked.time; name = asked.name.now; format = asked.format }

-- the last scan of a trace at or before a time, if there is one, as the trace is meant: what is refused of it stands
-- after that
abbrev pub IsFoundIn : Network → (trace : List ℕ) → (time : ℕ) → Option Scanned → Type 0
IsFoundIn net trace time found =
    (states : List State) × Meaning net (scans_of trace net).items states
    × (found ≡ last_upto time (scanned.scans_of (scans_of trace net).items states))

-- of what a word means in the place of a trace; faults that a case brings change nothing of what is meant
abbrev pub IsFoundAt : Source → (word : List ℕ) → (time : ℕ) → Option Scanned → Type 0
IsFoundAt from word time found =
    (trace : List ℕ) × (brought : List Fault) × IsPlay from word trace brought × IsFoundIn from.net trace time found

-- A text tells why what is named is so in the last scan at or before the time, with the places of the source of the
-- application of this name.
abbrev pub IsTold : Source → (app : List ℕ) → Wanted → (text : List ℕ) → Type 0
IsTold from app wanted text =
    (name : Name) × (name_of from.net wanted.name ≡ Some name)
    × (IsTrue from.tells → (s : Scanned) × IsFoundAt from wanted.trace wanted.time (Some s)
    × (tree : SourceTree) × IsSourceOf from.held app tree
    × IsReasoned from.net tree s (question_of from.net name) wanted.format text)

-- Nothing is asked for: the name is none, no case has the line of the word, or no scan is at or before the time.
abbrev pub AsksNothing : Source → Wanted → Type 0
AsksNothing from wanted =
    (name_of from.net wanted.name ≡ None)
    ⊎ (LacksCase from wanted.trace
    ⊎ (IsTrue from.tells → IsFoundAt from wanted.trace wanted.time None))

-- What `why` answers of an application: why what is named is so was written; or nothing is asked for, and nothing was
-- written.
abbrev pub Answered : Source → (app : List ℕ) → Wanted → (tells : Bool) → (before after : List ℕ) → Status → Type 0
Answered from app wanted tells before after status =
    ((text : List ℕ) × IsTold from app wanted text × (status ≡ Done) × Took text tells before after)
    ⊎ ((status ≡ Usage) × AsksNothing from wanted × TookNothing tells before after)

-- How it stops with its application: at its trace, before anything was written; in what is told; or if memory runs out,
-- and nothing was written.
abbrev pub StopsIn : Source → (app : List ℕ) → Wanted → (tells : Bool) → (before after : List ℕ) → Stop → Type 0
StopsIn from app wanted tells before after stop =
    StopsAtWord from wanted.trace stop tells before after
    ⊎ ((text : List ℕ) × IsTold from app wanted text × (stop ≡ Unwritten) × TookSome text tells before after)
    ⊎ ((stop ≡ NoMemory) × TookNothing tells before after)

-- what `why` answers of an application, or how it stops
abbrev pub AnswersIn : Source → (app : List ℕ) → Wanted → (tells : Bool) → (before after : List ℕ) →
    Result Status Stop → Type 0
AnswersIn from app wanted tells before after (Ok status) = Answered from app wanted tells before after status
AnswersIn from app wanted tells before after (Err stop) = StopsIn from app wanted tells before after stop

-- What `why` answers of the application of this name.
abbrev pub AnswersWhy : (app : List ℕ) → Wanted → (reading : Bool) (held : List ℕ → Option (List ℕ)) →
    (tells : Bool) → (before after : List ℕ) → Status → Type 0
AnswersWhy app wanted reading held tells before after status =
    (net : Network) × (sizes : ImageSizes) × IsOfApp (source net sizes reading held) app
    × Answered (source net sizes reading held) app wanted tells before after status

-- How `why` stops before all is done: without the application of this name, or with it.
abbrev pub StopsWhy : (app : List ℕ) → Wanted → (reading : Bool) (held : List ℕ → Option (List ℕ)) →
    (tells : Bool) → (before after : List ℕ) → Stop → Type 0
StopsWhy app wanted reading held tells before after stop =
    StopsAtApp reading held app stop tells before after
    ⊎ ((net : Network) × (sizes : ImageSizes) × IsOfApp (source net sizes reading held) app
    × StopsIn (source net sizes reading held) app wanted tells before after stop)
