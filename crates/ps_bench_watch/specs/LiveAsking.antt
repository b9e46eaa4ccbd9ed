-- What `live` writes of an application and of a trace that comes as a stream, and how it stops.
use Rattle.std.specs.Prelude.{◌≡◌, ◌⊎◌, ℕ, Bool, IsTrue, List, if◌then◌else◌, Option, Result, Ok, Err}
use Rattle.ps_base.specs.declared.failing.Refusal.{Refusal}
use Rattle.ps_bench_frame.specs.Opening.{IsOfApp, source}
use Rattle.ps_bench_frame.specs.Stopping.{StopsAtApp, Took, TookSome}
use Rattle.ps_bench_frame.specs.declared.ending.Input.TheVariants.{Trace}
use Rattle.ps_bench_frame.specs.declared.ending.InputStop.TheVariants.{Refused as IsRefused, Unread as IsUnread}
use Rattle.ps_bench_frame.specs.declared.ending.Status.{Status}
use Rattle.ps_bench_frame.specs.declared.ending.Status.TheVariants.{Done, Failed}
use Rattle.ps_bench_frame.specs.declared.ending.Stop.{Stop}
use Rattle.ps_bench_frame.specs.declared.ending.Stop.TheVariants.{Input, NoMemory, Unwritten}
use Rattle.ps_bench_watch.specs.Living.{RunsStream}
use Rattle.ps_bench_watch.specs.declared.living.LiveStop as living
use Rattle.ps_bench_watch.specs.declared.living.LiveStop.{LiveStop}
use Rattle.ps_model.specs.Network.{Network}
use Rattle.ps_model.specs.declared.channel.ImageSizes.{ImageSizes}
use Rattle.ps_report.specs.Short.{refusal_text}

-- A stream in a call: whether it tells its bytes, those that were to come before the call, and those that are to come
-- after it.
pub record Fed : Type 0 where
  pub tells : Bool
  pub coming : List ℕ
  pub left : List ℕ

-- the same from its parts
abbrev pub fed : (tells : Bool) → (coming left : List ℕ) → Fed
fed tells coming left = record { tells = tells; coming = coming; left = left }

-- the status of a run, by whether a scan tripped
abbrev pub status_by : Bool → Status
status_by trips = if trips then Failed else Done

-- What a run of the stream wrote, by name or by report lines, by how it ended, where the stream tells its bytes.
abbrev pub Runs : (by_name : Bool) → Network → Fed → (tells : Bool) → (before after : List ℕ) → Result Bool LiveStop →
    Type 0
Runs by_name net from tells before after ended =
    IsTrue from.tells → RunsStream by_name net from.coming from.left tells before after ended

-- a call stops at a refusal of a line: that is written, or a beginning of it
abbrev pub StopsAtLine : Refusal → (tells : Bool) → (before after : List ℕ) → Stop → Type 0
StopsAtLine refusal tells before after stop =
    ((stop ≡ Input (IsRefused Trace refusal)) × Took (refusal_text refusal) tells before after)
    ⊎ ((stop ≡ Unwritten) × TookSome (refusal_text refusal) tells before after)

-- How a call stops that has the application: at a line that is refused, whose refusal stands after what is said of the
-- lines before (`mid`); or as the run does, at a read or a write that failed, or if memory runs out.
abbrev pub StopsRun : (by_name : Bool) → Network → Fed → (tells : Bool) → (before after : List ℕ) → Stop → Type 0
StopsRun by_name net from tells before after stop =
    ((refusal : Refusal) × (mid : List ℕ)
    × Runs by_name net from tells before mid (Err (living.TheVariants.Refused refusal))
    × StopsAtLine refusal tells mid after stop)
    ⊎ ((stop ≡ Input (IsUnread Trace)) × Runs by_name net from tells before after (Err living.TheVariants.Unread))
    ⊎ ((stop ≡ Unwritten) × Runs by_name net from tells before after (Err living.TheVariants.Unwritten))
    ⊎ ((stop ≡ NoMemory) × Runs by_name net from tells before after (Err living.TheVariants.Memory))

-- How a call ends that has the application: the stream ended, and the status is that of its run; or it stops.
abbrev pub Ends : (by_name : Bool) → Network → Fed → (tells : Bool) → (before after : List ℕ) →
    Result Status Stop → Type 0
Ends by_name net from tells before after (Ok status) =
    (trips : Bool) × (status ≡ status_by trips) × Runs by_name net from tells before after (Ok trips)
Ends by_name net from tells before after (Err stop) = StopsRun by_name net from tells before after stop

-- What `live` answers of the application of this name, by name or by report lines.
abbrev pub AnswersLive : (app : List ℕ) (by_name : Bool) → Fed → (reading : Bool)
    (held : List ℕ → Option (List ℕ)) → (tells : Bool) → (before after : List ℕ) → Status → Type 0
AnswersLive app by_name from reading held tells before after status =
    (net : Network) × (sizes : ImageSizes) × IsOfApp (source net sizes reading held) app
    × Ends by_name net from tells before after (Ok status)

-- How `live` stops before the stream's end: without the application of this name, or with it.
abbrev pub StopsLive : (app : List ℕ) (by_name : Bool) → Fed → (reading : Bool) (held : List ℕ → Option (List ℕ)) →
    (tells : Bool) → (before after : List ℕ) → Stop → Type 0
StopsLive app by_name from reading held tells before after stop =
    StopsAtApp reading held app stop tells before after
    ⊎ ((net : Network) × (sizes : ImageSizes) × IsOfApp (source net sizes reading held) app
    × Ends by_name net from tells before after (Err stop))
