-- What `watch` writes of a run.
use Rattle.std.specs.Prelude.{◌≡◌, ◌⊎◌, ℕ, Bool, IsTrue, List, ◌++◌, Option, Some, Result, Ok, Err}
use Rattle.ps_base.specs.declared.failing.Refusal.{Refusal}
use Rattle.ps_bench_names.specs.declared.name.Name.{Name}
use Rattle.ps_model.specs.declared.channel.Fault.{Fault}
use Rattle.ps_model.specs.Meaning.{Item, Meaning}
use Rattle.ps_model.specs.Network.{Network}
use Rattle.ps_model.specs.Scanning.{State}
use Rattle.ps_report.specs.Short.{refusal_text}
use Rattle.ps_runs.specs.Written.{IsBeginningOf}
use Rattle.ps_top.specs.Program.{end_line, region_sizes}
use Rattle.ps_bench_frame.specs.Ending.{IsUnread}
use Rattle.ps_bench_frame.specs.Opening.{Source}
use Rattle.ps_bench_frame.specs.Stopping.{TookNothing}
use Rattle.ps_bench_trace.specs.Opening.{AreFaults}
use Rattle.ps_bench_trace.specs.Playing.{IsPlay}
use Rattle.ps_trace.specs.Reading.{only_refused}
use Rattle.ps_trace.specs.Scans.{End, Scans, scans_of}
use Rattle.ps_trace.specs.Scans.End.{whole, refused}
use Rattle.ps_bench_watch.specs.Naming.{AreWatched}
use Rattle.ps_world.specs.Whole.{IsSetupOf, Setup}
use Rattle.ps_bench_frame.specs.declared.ending.Input.TheVariants.{Trace}
use Rattle.ps_bench_frame.specs.declared.ending.InputStop.TheVariants.{Refused, Unread}
use Rattle.ps_bench_frame.specs.declared.ending.Stop.{Stop}
use Rattle.ps_bench_frame.specs.declared.ending.Stop.TheVariants.{Input, Unwritten}

-- What was written of a run that has this text, and ends at the end of its trace or at a refusal, by how the call
-- ended: the text, and the line of the refusal after it; or a beginning of both, where a read or a write failed.
abbrev pub EndsRun : (text : List ℕ) → End → (bytes : List ℕ) → Result (Unit {0}) Stop → Type 0
EndsRun text end bytes (Ok done) = (bytes ≡ text) × (end ≡ whole)
EndsRun text end bytes (Err (Input (Refused Trace refusal))) =
    (bytes ≡ text ++ refusal_text refusal) × (end ≡ refused refusal)
EndsRun text end bytes (Err (Input (Unread Trace))) = IsBeginningOf bytes text
EndsRun text end bytes (Err Unwritten) = IsBeginningOf bytes (text ++ end_line end)
EndsRun text end bytes (Err _) = ⊥

-- What is watched of a run of a network: in which world, by which names, and which faults strike. They are those that
-- the words of a call ask for, by what the files hold.
pub record Run : Type 0 where
  pub setup : Setup
  pub names : List Name
  pub faults : List Fault

-- What `watch` is asked of an application: the word in the place of a trace, the words for what is watched, and the
-- name of a fault file, if faults are to strike.
pub record Wanted : Type 0 where
  pub trace : List ℕ
  pub words : List (List ℕ)
  pub file : Option (List ℕ)

-- a run is the one that is wanted, but for its trace and its faults
pub record IsWanted (net : Network) (by_default : List Name) (wanted : Wanted) (run : Run) : Type 0 where
  pub world : IsSetupOf net run.setup
  pub names : AreWatched net by_default wanted.words run.names

-- A run over the scans of a trace, with this text, was written, up to how the call ended: whichever states the scans
-- mean, of which there is one list.
pub record Shows (net : Network) (text : List Item → List State → List ℕ) (scans : Scans) (tells : Bool)
    (before after : List ℕ) (ended : Result (Unit {0}) Stop) : Type 0 where
  pub bytes : List ℕ
  pub written : IsTrue tells → after ≡ before ++ bytes
  pub ends : (ws : List State) → Meaning net scans.items ws → EndsRun (text scans.items ws) scans.end bytes ended

-- the header of a trace is refused: nothing was written but the line of the refusal
abbrev pub RefusesHeader : Network → (trace : List ℕ) → Refusal → (tells : Bool) → (before after : List ℕ) → Type 0
RefusesHeader net trace refusal tells before after =
    (scans_of trace net ≡ only_refused refusal) × (IsTrue tells → after ≡ before ++ refusal_text refusal)

-- a run came to the end of its trace, or to a line of it that is refused
abbrev pub IsRunEnd : Result (Unit {0}) Stop → Type 0
IsRunEnd ended = (ended ≡ Ok tt) ⊎ (refusal : Refusal) × (ended ≡ Err (Input (Refused Trace refusal)))

-- What came of the run of this trace: it was made, up to its end or to the refusal of a line; or its header is refused.
abbrev pub ComesOf : Network → (text : List Item → List State → List ℕ) → (trace : List ℕ) → (tells : Bool) →
    (before after : List ℕ) → Result (Unit {0}) Stop → Type 0
ComesOf net text trace tells before after ended =
    Shows net text (scans_of trace net) tells before after ended
    ⊎ (refusal : Refusal) × (ended ≡ Err (Input (Refused Trace refusal)))
    × RefusesHeader net trace refusal tells before after

-- the same of the trace that is held
abbrev pub ComesOfHeld : Network → (text : List Item → List State → List ℕ) → (held : Option (List ℕ)) → (tells : Bool) →
    (before after : List ℕ) → Result (Unit {0}) Stop → Type 0
ComesOfHeld net text held tells before after ended =
    (trace : List ℕ) × (held ≡ Some trace) × ComesOf net text trace tells before after ended

-- the same of what a word means in the place of a trace, where the faults strike that are wanted, or else those that it
-- brings
abbrev pub ComesOfPlay : Source → (text : List Item → List State → List ℕ) → Wanted → Run → (tells : Bool) →
    (before after : List ℕ) → Result (Unit {0}) Stop → Type 0
ComesOfPlay from text wanted run tells before after ended =
    (trace : List ℕ) × (brought : List Fault) × IsPlay from wanted.trace trace brought
    × AreFaults from.held (region_sizes run.setup) wanted.file brought run.faults
    × ComesOf from.net text trace tells before after ended

-- a read of what a run is made of failed
abbrev pub IsUnreadEnd : Result (Unit {0}) Stop → Type 0
IsUnreadEnd (Ok done) = ⊥
IsUnreadEnd (Err stop) = IsUnread stop

-- What comes of a run was written where it came to its end. Where a read failed, that was written up to there, which is
-- a beginning of its text, or nothing.
pub record MakesRun (Comes : Type 0) (tells : Bool) (before after : List ℕ) (ended : Result (Unit {0}) Stop) : Type 0 where
  pub to_end : IsRunEnd ended → Comes
  pub unread : IsUnreadEnd ended → Comes ⊎ TookNothing tells before after

-- the same of a run that is wanted, where the files tell
abbrev pub ComesOfRun : Source → (text : Run → List Item → List State → List ℕ) → (by_default : List Name) → Wanted →
    (tells : Bool) → (before after : List ℕ) → Result (Unit {0}) Stop → Type 0
ComesOfRun from text by_default wanted tells before after ended =
    MakesRun ((run : Run) × IsWanted from.net by_default wanted run
    × (IsTrue from.tells → ComesOfPlay from (text run) wanted run tells before after ended)) tells before after ended
