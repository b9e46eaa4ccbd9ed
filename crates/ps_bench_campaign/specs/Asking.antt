-- What `campaign` is asked, what it writes by that, and how it stops.
use Rattle.std.specs.Prelude.{◌≡◌, ◌⊎◌, ◌++◌, ℕ, Bool, IsTrue, List, [], Option, Some, Result, Ok, Err, length}
use Rattle.std.specs.Prelude.{if◌then◌else◌}
use Rattle.ps_bench_trace.specs.Refusing.{StopsAtWord}
use Rattle.ps_bench_frame.specs.Opening.{IsOfApp, Source, source}
use Rattle.ps_bench_frame.specs.Stopping.{StopsAtApp, Took, TookNothing, TookSome}
use Rattle.ps_bench_frame.specs.declared.ending.Status.{Status}
use Rattle.ps_bench_frame.specs.declared.ending.Status.TheVariants.{Done, Usage}
use Rattle.ps_bench_frame.specs.declared.ending.Stop.{Stop}
use Rattle.ps_bench_frame.specs.declared.ending.Stop.TheVariants.{Unwritten, NoMemory}
use Rattle.ps_bench_campaign.specs.Courses.{scan_count}
use Rattle.ps_eqvm.specs.Code.{code_b}
use Rattle.ps_model.specs.Meaning.{Item}
use Rattle.ps_model.specs.Network.{Network}
use Rattle.ps_model.specs.declared.channel.Channel.{Channel}
use Rattle.ps_model.specs.declared.channel.Fault.{Fault}
use Rattle.ps_model.specs.declared.channel.ImageSizes.{ImageSizes}
use Rattle.ps_stackvm.specs.Code.{code_a}
use Rattle.ps_bench_trials.specs.Naming.{digest_text}
use Rattle.ps_bench_trials.specs.Totals.{totals_text}
use Rattle.ps_trace.specs.Scans.{scans_of}
use Rattle.ps_trace.specs.Scans.End.{whole}
use Rattle.ps_bench_trace.specs.Playing.{IsPlay, LacksCase}
use Rattle.ps_bench_campaign.specs.Campaigns.{campaign, room_of}
use Rattle.ps_bench_trials.specs.declared.drawing.Room.{Room}
use Rattle.ps_world.specs.Whole.{Setup, IsSetupOf, machines_in}
use Rattle.ps_world.specs.Worlds.{Machines, world_0}
use Rattle.ps_bench_campaign.specs.Printing.{faults_text}
use Rattle.ps_bench_campaign.specs.declared.campaigning.Asked.{Asked}

-- What is wanted of an application: the word in the place of a trace; the number of the first trial, and how many there
-- are; the channel that each strikes, if it is not drawn; and whether the faults are written.
pub record Wanted : Type 0 where
  pub trace : List ℕ
  pub from : ℕ
  pub count : ℕ
  pub channel : Option Channel
  pub print : Bool

-- of a call
abbrev pub wanted_by : Asked → Wanted
wanted_by asked = record {
  trace = asked.trace.now;
  from = asked.trials.from;
  count = asked.trials.count;
  channel = asked.trials.channel;
  print = asked.print;
}

-- the lengths of the regions of both channels, as they stand at the beginning
abbrev pub sizes_in : Machines → ImageSizes
sizes_in m =
    let x = world_0 m in
    record {
      a_code = length x.a.code;
      a_cells = length x.a.cells;
      b_code = length x.b.code;
      b_cells = length x.b.cells;
    }

-- what the trials may strike in a run of these items
abbrev pub room_in : Network → Machines → List Item → Option Channel → Room
room_in net m items channel = room_of net (sizes_in m) (scan_count items) channel

-- the faults of the trials, where they are to be written
abbrev pub printed_text : Network → Room → Wanted → List ℕ
printed_text net room wanted =
    if wanted.print then faults_text (code_a net) (code_b net) room wanted.from wanted.count else []

-- What is told of the trials over a run of these items: their faults, where they are to be written; the head, with what
-- names the application and the trace; and what is counted of what the trials come to.
abbrev pub campaign_text : Network → Machines → List Item → Wanted → (app trace : List ℕ) → List ℕ
campaign_text net m items wanted app trace =
    let room = room_in net m items wanted.channel in
    printed_text net room wanted ++ totals_text app trace (campaign net m items room wanted.from wanted.count)

-- The text is told of the trials over the trace that the word means, on the application of this name, each of which is
-- named by the SHA-256 of its text; faults that a case brings do not strike.
abbrev pub IsTold : Source → (app : List ℕ) → Wanted → (text : List ℕ) → Type 0
IsTold from app wanted text =
    IsTrue from.tells → (written : List ℕ) × (from.held app ≡ Some written)
    × (trace : List ℕ) × (brought : List Fault) × IsPlay from wanted.trace trace brought
    × ((scans_of trace from.net).end ≡ whole)
    × ((setup : Setup) → IsSetupOf from.net setup →
    text ≡ campaign_text from.net (machines_in setup) (scans_of trace from.net).items wanted (digest_text written)
    (digest_text trace))

-- What `campaign` answers of an application: what is told of the trials was written; or no case has the line of the
-- word, and nothing was written.
abbrev pub Answered : Source → (app : List ℕ) → Wanted → (tells : Bool) → (before after : List ℕ) → Status → Type 0
Answered from app wanted tells before after status =
    ((text : List ℕ) × IsTold from app wanted text × (status ≡ Done) × Took text tells before after)
    ⊎ ((status ≡ Usage) × LacksCase from wanted.trace × TookNothing tells before after)

-- How it stops with its application: at its trace, before anything was written; in what is told; or where memory runs
-- out, and nothing was written.
abbrev pub StopsIn : Source → (app : List ℕ) → Wanted → (tells : Bool) → (before after : List ℕ) → Stop → Type 0
StopsIn from app wanted tells before after stop =
    StopsAtWord from wanted.trace stop tells before after
    ⊎ ((text : List ℕ) × IsTold from app wanted text × (stop ≡ Unwritten) × TookSome text tells before after)
    ⊎ ((stop ≡ NoMemory) × TookNothing tells before after)

-- what `campaign` answers of an application, or how it stops
abbrev pub AnswersIn : Source → (app : List ℕ) → Wanted → (tells : Bool) → (before after : List ℕ) →
    Result Status Stop → Type 0
AnswersIn from app wanted tells before after (Ok status) = Answered from app wanted tells before after status
AnswersIn from app wanted tells before after (Err stop) = StopsIn from app wanted tells before after stop

-- What `campaign` answers of the application of this name.
abbrev pub AnswersCampaign : (app : List ℕ) → Wanted → (reading : Bool) (held : List ℕ → Option (List ℕ)) →
    (tells : Bool) → (before after : List ℕ) → Status → Type 0
AnswersCampaign app wanted reading held tells before after status =
    (net : Network) × (sizes : ImageSizes) × IsOfApp (source net sizes reading held) app
    × Answered (source net sizes reading held) app wanted tells before after status

-- How `campaign` stops before all is done: without the application of this name, or with it.
abbrev pub StopsCampaign : (app : List ℕ) → Wanted → (reading : Bool) (held : List ℕ → Option (List ℕ)) →
    (tells : Bool) → (before after : List ℕ) → Stop → Type 0
StopsCampaign app wanted reading held tells before after stop =
    StopsAtApp reading held app stop tells before after
    ⊎ ((net : Network) × (sizes : ImageSizes) × IsOfApp (source net sizes reading held) app
    × StopsIn (source net sizes reading held) app wanted tells before after stop)
