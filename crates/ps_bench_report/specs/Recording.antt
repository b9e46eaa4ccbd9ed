-- What a recording holds of a run.
use Rattle.std.specs.Prelude.{◌≡◌, ◌≤◌, ◌<◌, ℕ, zero, suc, Bool, true, false, List, [], ◌∷◌, Option, Some, None}
use Rattle.std.specs.Prelude.{All, map, length, nat_le, slice_get, fold, if◌then◌else◌}
use Rattle.ps_model.specs.Meaning.{Item}
use Rattle.ps_model.specs.Meaning.Item.{scan, restart}
use Rattle.ps_model.specs.Network.{Network}
use Rattle.ps_model.specs.declared.channel.Verdict.{Verdict}
use Rattle.ps_model.specs.declared.channel.Verdict.TheVariants as verdict
use Rattle.ps_bench_report.specs.declared.recording.Course.{Course}
use Rattle.ps_bench_report.specs.declared.recording.Course.TheVariants.{Runs, Trips, Down}
use Rattle.ps_bench_report.specs.declared.recording.Moment.{Moment}
use Rattle.ps_bench_report.specs.declared.recording.Recording.{Recording}
use Rattle.ps_bench_report.specs.declared.recording.TheConstants.{MOST_MOMENTS}
use Rattle.ps_bench_judge.specs.Moments.{Moment as Sight}
use Rattle.ps_bench_judge.specs.Named.{value_in}
use Rattle.ps_bench_names.specs.declared.name.Name.{Name}

-- ---- the scans of a run

-- a scan of a run, as it is seen, and whether it is the first one after a restart
pub record Made : Type 0 where
  pub sight : Sight
  pub restarted : Bool

-- the scans among these items, of which this is seen
abbrev pub made_in : (restarted : Bool) → List Item → List Sight → List Made
made_in restarted [] sights = []
made_in restarted (restart ∷ items) sights = made_in true items sights
made_in restarted (scan now ins ∷ items) [] = []
made_in restarted (scan now ins ∷ items) (s ∷ sights) =
    record { sight = s; restarted = restarted } ∷ made_in false items sights

-- how a world goes on after a scan of this verdict
abbrev pub course_of : Verdict → Course
course_of verdict.Released = Runs
course_of (verdict.Tripped cause) = Trips
course_of verdict.Down = Down

-- what can be shown of a scan: its time, whether it is the first one after a restart, how the world goes on, and the
-- value of each name
pub record Shot : Type 0 where
  pub now : ℕ
  pub restarted : Bool
  pub course : Course
  pub values : List ℕ

-- what there is to be shown of a scan of a run
abbrev pub shot_of : Network → List Name → Made → Shot
shot_of net names s = record {
  now = s.sight.now;
  restarted = s.restarted;
  course = course_of s.sight.verdict;
  values = map (value_in net s.sight) names;
}

-- ---- what is shown

-- what is shown of a scan, with its number
pub record Frame : Type 0 where
  pub scan : ℕ
  pub shot : Shot

-- what a moment shows
abbrev pub frame_of : Moment → Frame
frame_of m = record {
  scan = m.scan;
  shot = record { now = m.now; restarted = m.restarted; course = m.course; values = m.values.items };
}

-- what a recording shows: names, scans, and whether it is cut
pub record Film : Type 0 where
  pub names : List Name
  pub frames : List Frame
  pub is_cut : Bool

-- the film that a recording holds
abbrev pub film_of : Recording → Film
film_of r = record { names = r.names.items; frames = map frame_of r.moments.items; is_cut = r.is_cut }

-- the scan of this number, counted from 1
abbrev pub scan_at : List Shot → ℕ → Option Shot
scan_at shots zero = None
scan_at shots (suc k) = slice_get shots k

-- a later frame in the place of one, where it is of this scan or an earlier one
abbrev pub later_upto : ℕ → Option Frame → Frame → Option Frame
later_upto n got frame = if nat_le frame.scan n then Some frame else got

-- what is shown last up to a scan
abbrev pub shown_upto : ℕ → List Frame → Option Frame
shown_upto n frames = fold (later_upto n) None frames

-- A scan is as it is shown: its values and its course are those of what is shown last up to it; and it is shown itself,
-- where it is the first one after a restart.
abbrev pub IsShownBy : ℕ → Shot → Option Frame → Type 0
IsShownBy n s None = ⊥
IsShownBy n s (Some f) =
    (f.shot.course ≡ s.course) × (f.shot.values ≡ s.values) × (s.restarted ≡ true → f.scan ≡ n)

-- the numbers of frames rise, from above this one on
abbrev pub Rises : ℕ → List Frame → Type 0
Rises n [] = Unit {0}
Rises n (f ∷ frames) = (n < f.scan) × Rises f.scan frames

-- What a film shows of scans: each frame is of the scan of its number; the numbers rise; and each scan is as it is
-- shown, up to the place where it is cut, after as many frames as there may be.
pub record IsFilmOf (names : List Name) (shots : List Shot) (film : Film) : Type 0 where
  pub named : film.names ≡ names
  pub each : All (λ f. scan_at shots f.scan ≡ Some f.shot) film.frames
  pub rises : Rises 0 film.frames
  pub upto : ℕ
  pub within : upto ≤ length shots
  pub rest : film.is_cut ≡ false → upto ≡ length shots
  pub full : film.is_cut ≡ true → MOST_MOMENTS ≤ length film.frames
  pub shows : (n : ℕ) (s : Shot) → n ≤ upto → scan_at shots n ≡ Some s → IsShownBy n s (shown_upto n film.frames)

-- A recording is of a run whose scans are these: of a run of 4,294,967,295 scans at most.
abbrev pub Records : Network → List Name → List Made → Recording → Type 0
Records net names run r =
    length run ≤ 4294967295 → IsFilmOf names (map (shot_of net names) run) (film_of r)
