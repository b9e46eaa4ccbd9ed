-- What is recorded of a run.
use Rattle.std.specs.Prelude.{◌≡◌, ◌≤◌, false, List, map, length}
use Rattle.ps_model.specs.Meaning.{Item, nothing}
use Rattle.ps_model.specs.Network.{Network}
use Rattle.ps_model.specs.Scanning.{State}
use Rattle.ps_bench_report.specs.Recorder.{IsFresh}
use Rattle.ps_bench_report.specs.Recording.{IsFilmOf, Made, film_of, made_in, shot_of}
use Rattle.ps_bench_report.specs.declared.recording.Recorder.{Recorder}
use Rattle.ps_runs.specs.Resting.{answered}
use Rattle.ps_runs.specs.Running.{IsBeginning}
use Rattle.ps_runs.specs.Watching.{StandsAt}
use Rattle.ps_runs.specs.declared.striking.StruckWorld.{StruckWorld}
use Rattle.ps_runs.specs.declared.watching.Watched.{Watched}
use Rattle.ps_bench_judge.specs.Runs.{moments_of}
use Rattle.ps_bench_names.specs.declared.name.Name.{Name}

-- A run that is recorded is at its beginning: its world and its evaluator are, and nothing was recorded.
pub record IsBegun (net : Network) (names : List Name) (p : Watched StruckWorld) (r : Recorder) : Type 0 where
  pub world : IsBeginning net p.performer
  pub evaluator : StandsAt net nothing p.evaluator
  pub fresh : IsFresh names r

-- the scans of a run over items that mean these states
abbrev pub made_of : Network → StruckWorld → List Item → List State → List Made
made_of net p items ws = made_in false items (moments_of net nothing items (answered net p.faults 1 items p.world) ws)

-- a recorder has recorded these scans, of which there are 4,294,967,295 at most, where memory was not wanting
abbrev pub HasRecorded : Network → List Name → List Made → Recorder → Type 0
HasRecorded net names made r =
    r.is_wanting ≡ false → length made ≤ 4294967295 → IsFilmOf names (map (shot_of net names) made) (film_of r.recording)
