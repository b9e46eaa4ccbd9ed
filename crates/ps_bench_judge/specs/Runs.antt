-- What is seen of the scans of a run.
use Rattle.std.specs.Prelude.{ℕ, List, [], ◌∷◌}
use Rattle.ps_model.specs.Meaning.{Item, Past, last, nothing, old_state}
use Rattle.ps_model.specs.Meaning.Item.{scan, restart}
use Rattle.ps_model.specs.Network.{Network}
use Rattle.ps_model.specs.Scanning.{State}
use Rattle.ps_world.specs.Answers.{Answer}
use Rattle.ps_bench_judge.specs.Moments.{Moment}

-- What is seen of a scan: the verdict of its Compare and the report that this released, and the signals of the state
-- that it starts from and of the state that it leaves, as the networks mean them.
abbrev pub seen_as : Network → Past → (now : ℕ) → Answer → State → Moment
seen_as net past now answer w = record {
  now = now;
  verdict = answer.verdict;
  report = answer.report;
  before = (old_state net past).signals;
  signals = w.signals;
}

-- what is seen of the scans among these items, which have these answers and mean these states
abbrev pub moments_of : Network → Past → List Item → List Answer → List State → List Moment
moments_of net past [] answers ws = []
moments_of net past (restart ∷ items) answers ws = moments_of net nothing items answers ws
moments_of net past (scan now ins ∷ items) [] ws = []
moments_of net past (scan now ins ∷ items) (a ∷ answers) [] = []
moments_of net past (scan now ins ∷ items) (a ∷ answers) (w ∷ ws) =
    seen_as net past now a w ∷ moments_of net (last now w) items answers ws
