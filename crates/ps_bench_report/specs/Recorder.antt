-- What a recorder makes of the outcomes of a run.
use Rattle.std.specs.Prelude.{◌≡◌, ◌⊎◌, ℕ, true, false, ◌+◌, ◌-◌, List, [], ◌∷◌, ◌++◌, Option, Some, None}
use Rattle.std.specs.Prelude.{length, min, nat_lt, slice_get, if◌then◌else◌}
use Rattle.ps_model.specs.Network.{Network}
use Rattle.ps_model.specs.declared.channel.Verdict.{Verdict}
use Rattle.ps_model.specs.declared.report.Report.{Report}
use Rattle.ps_bench_report.specs.Recording.{Film, Frame, Shot, film_of, shot_of}
use Rattle.ps_bench_report.specs.declared.recording.Recorder.{Recorder}
use Rattle.ps_bench_report.specs.declared.recording.TheConstants.{MOST_MOMENTS}
use Rattle.ps_runs.specs.Outcomes.{Outcome, performed, refuses, anew}
use Rattle.ps_runs.specs.declared.striking.StruckWorld.{StruckWorld}
use Rattle.ps_runs.specs.declared.watching.Watched.{Watched}
use Rattle.ps_bench_judge.specs.Moments.{Moment as Sight}
use Rattle.ps_bench_names.specs.declared.name.Name.{Name}

-- one more frame, or a cut where there are as many as there may be
abbrev pub with_frame : Film → Frame → Film
with_frame film f =
    if nat_lt (length film.frames) MOST_MOMENTS
    then record { names = film.names; frames = film.frames ++ f ∷ []; is_cut = film.is_cut }
    else record { names = film.names; frames = film.frames; is_cut = true }

-- a scan shows nothing new after a frame
abbrev pub Stays : Option Frame → Shot → Type 0
Stays None s = ⊥
Stays (Some f) s = (s.restarted ≡ false) × (f.shot.course ≡ s.course) × (f.shot.values ≡ s.values)

-- the last frame
abbrev pub last_frame : List Frame → Option Frame
last_frame frames = slice_get frames (length frames - 1)

-- a scan is shown, or left out where it shows nothing new
abbrev pub Shows : Film → Frame → Film → Type 0
Shows film f film' = (film' ≡ with_frame film f) ⊎ (Stays (last_frame film.frames) f.shot × (film' ≡ film))

-- a film that shows nothing yet
abbrev pub empty_film : List Name → Film
empty_film names = record { names = names; frames = []; is_cut = false }

-- a recorder of these names has recorded nothing
pub record IsFresh (names : List Name) (r : Recorder) : Type 0 where
  pub film : film_of r.recording ≡ empty_film names
  pub none_made : r.scans ≡ 0
  pub not_restarted : r.restarted ≡ false

-- what a recorder that has counted a scan may show of it
abbrev pub frame_now : Network → Recorder → Sight → Frame
frame_now net r s = record {
  scan = r.scans;
  shot = shot_of net r.recording.names.items (record { sight = s; restarted = r.restarted });
}

-- the same before it has counted it
abbrev pub next_frame : Network → Recorder → Sight → Frame
next_frame net r s = record {
  scan = min (r.scans + 1) 4294967295;
  shot = shot_of net r.recording.names.items (record { sight = s; restarted = r.restarted });
}

-- A scan was taken, where memory has not been wanting.
pub record TakesScan (net : Network) (r : Recorder) (s : Sight) (r' : Recorder) : Type 0 where
  pub scans : r'.scans ≡ min (r.scans + 1) 4294967295
  pub restarted : r'.restarted ≡ false
  pub wanting : r'.is_wanting ≡ false → r.is_wanting ≡ false
  pub shows : r'.is_wanting ≡ false → Shows (film_of r.recording) (next_frame net r s) (film_of r'.recording)

-- A restart was taken.
pub record TakesRestart (r r' : Recorder) : Type 0 where
  pub scans : r'.scans ≡ r.scans
  pub restarted : r'.restarted ≡ true
  pub wanting : r'.is_wanting ≡ r.is_wanting
  pub same : film_of r'.recording ≡ film_of r.recording

-- what is seen of a scan, after which the evaluator stands so
abbrev pub seen_behind : Watched StruckWorld → (now : ℕ) → Verdict → Report → Sight
seen_behind p now verdict report = record {
  now = now;
  verdict = verdict;
  report = report;
  before = p.evaluator.before.signals;
  signals = p.evaluator.behind.signals;
}

-- what a recorder becomes by an outcome
abbrev pub recorder_takes : Network → Recorder → Watched StruckWorld → Outcome Verdict → Recorder → Type 0
recorder_takes net r p (performed now verdict report) r' = TakesScan net r (seen_behind p now verdict report) r'
recorder_takes net r p (refuses refusal) r' = Unit {0}
recorder_takes net r p anew r' = TakesRestart r r'
