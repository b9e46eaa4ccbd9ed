-- What a run without faults writes of the lines of a stream, and how it stops.
use Rattle.std.specs.Prelude.{◌≡◌, ◌≤◌, ◌⊎◌, [], ◌++◌, ℕ, Bool, true, false, IsTrue, List, Result, Ok, Err, length}
use Rattle.ps_base.specs.declared.failing.Refusal.{Refusal}
use Rattle.ps_bench_watch.specs.Feeding.{lines_left, waiting}
use Rattle.ps_bench_watch.specs.Saying.{told}
use Rattle.ps_bench_watch.specs.Streaming.{fed_lines, scans_in}
use Rattle.ps_bench_watch.specs.declared.feed.Feed.{Feed}
use Rattle.ps_lines.specs.Lines.{Line, HasNoLineFeed}
use Rattle.ps_model.specs.Meaning.{Item, Meaning}
use Rattle.ps_model.specs.Network.{Network}
use Rattle.ps_model.specs.Scanning.{State}
use Rattle.ps_outside.specs.Outside.{last_count}
use Rattle.ps_runs.specs.declared.items.Cut.{Cut}
use Rattle.ps_runs.specs.declared.items.Cut.TheVariants.{Refused as IsRefused, Unread as IsUnread}
use Rattle.ps_runs.specs.declared.items.Cut.TheVariants.{Unwritten as IsUnwritten}
use Rattle.ps_runs.specs.Resting.{answer_lines, answered, any_trips}
use Rattle.ps_bench_waves.specs.Names.{main_names}
use Rattle.ps_bench_waves.specs.declared.format.Format.TheVariants.{Text}
use Rattle.ps_trace.specs.Scans.{End}
use Rattle.ps_trace.specs.Scans.End.{whole, refused}
use Rattle.ps_bench_waves.specs.Watching.{watch_text}
use Rattle.ps_world.specs.Answers.{Answer}
use Rattle.ps_world.specs.Whole.{Whole, IsWorldOf}
use Rattle.ps_bench_watch.specs.declared.living.LiveStop.{LiveStop}
use Rattle.ps_bench_watch.specs.declared.living.LiveStop.TheVariants.{Refused, Unread, Unwritten, Memory as NoMemory}

-- a run stops by what cut it short
abbrev pub stop_by : Cut → LiveStop
stop_by (IsRefused refusal) = Refused refusal
stop_by IsUnread = Unread
stop_by IsUnwritten = Unwritten

-- This is said of items whose scans have these answers. By name it is what `watch` writes of them where no names are
-- given: the outputs and the codes of instances, by the states that the items mean, of which there is one list; else it
-- is what `run`, and `fault` without faults, write of them.
abbrev pub IsSaid : (by_name : Bool) → Network → List Item → List Answer → (said : List ℕ) → Type 0
IsSaid false net items given said = said ≡ answer_lines net items given
IsSaid true net items given said =
    (ws : List State) × Meaning net items ws × (said ≡ watch_text net Text (main_names net) items given ws)

-- Of the lines of a stream with these bytes those before the ones that are left were run: they are the lines of a trace
-- that ends so, and this is what is said of its scans and restarts, by name or by report lines, by what the
-- application's world answers; and whether a scan trips.
pub record AreRun (by_name : Bool) (net : Network) (bytes : List ℕ) (left : List Line) (end : End) (said : List ℕ)
    (trips : Bool) : Type 0 where
  pub done : List Line
  pub world : Whole
  pub split : fed_lines bytes ≡ done ++ left
  pub of_net : IsWorldOf net world
  pub ends : (scans_in done net).end ≡ end
  pub says : IsSaid by_name net (scans_in done net).items (answered net [] 1 (scans_in done net).items world) said
  pub trips_so : trips ≡ any_trips (answered net [] 1 (scans_in done net).items world)

-- after these bytes an output that tells took these
abbrev pub Takes : (said : List ℕ) (tells : Bool) (before after : List ℕ) → Type 0
Takes said tells before after = IsTrue tells → after ≡ before ++ said

-- after these bytes an output that tells took a beginning of these
abbrev pub TakesSome : (said : List ℕ) (tells : Bool) (before after : List ℕ) → Type 0
TakesSome said tells before after =
    IsTrue tells → (part owed : List ℕ) × (after ≡ before ++ part) × (part ++ owed ≡ said)

-- What was written of a stream of these bytes, of which the second ones are still to come, and by what the run ended.
abbrev pub RunsStream : (by_name : Bool) → Network → (bytes coming : List ℕ) → (tells : Bool) →
    (before after : List ℕ) → Result Bool LiveStop → Type 0
-- at the stream's end, or after as many lines as are counted, what is said of all lines
RunsStream by_name net bytes coming tells before after (Ok trips) =
    (left : List Line) × (said : List ℕ) × AreRun by_name net bytes left whole said trips × Takes said tells before after
    × ((left ≡ []) ⊎ (last_count ≤ length (fed_lines bytes)))
-- at a line that is refused, with the number that is told of it, what is said of those before
RunsStream by_name net bytes coming tells before after (Err (Refused refusal)) =
    (left : List Line) × (cause : Refusal) × (said : List ℕ) × (trips : Bool)
    × AreRun by_name net bytes left (refused cause) said trips × (refusal ≡ told cause) × Takes said tells before after
-- at a read that failed, what is said of all lines that were there whole; before the header nothing is said
RunsStream by_name net bytes coming tells before after (Err Unread) =
    Takes [] tells before after
    ⊎ ((feed : Feed) × (said : List ℕ) × (trips : Bool)
    × AreRun by_name net bytes (lines_left feed coming) whole said trips × HasNoLineFeed (waiting feed)
    × Takes said tells before after)
-- at a write that failed, a beginning of what is said of the lines so far
RunsStream by_name net bytes coming tells before after (Err Unwritten) =
    Takes [] tells before after
    ⊎ ((left : List Line) × (end : End) × (said : List ℕ) × (trips : Bool)
    × AreRun by_name net bytes left end said trips × TakesSome said tells before after)
-- without memory, nothing
RunsStream by_name net bytes coming tells before after (Err NoMemory) = Takes [] tells before after
