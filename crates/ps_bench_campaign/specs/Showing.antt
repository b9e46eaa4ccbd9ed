-- What a trial comes to: the run of a trace with its fault, beside the reports of the run without it.
use Rattle.std.specs.Prelude.{ℕ, List, [], ◌∷◌, length, unwrap_or}
use Rattle.ps_bench_campaign.specs.Courses.{quiet_reports}
use Rattle.ps_model.specs.Fields.{first_difference}
use Rattle.ps_model.specs.Meaning.{Item, scan, restart}
use Rattle.ps_model.specs.Network.{Network, instance_count}
use Rattle.ps_model.specs.declared.channel.Fault.{Fault}
use Rattle.ps_model.specs.declared.report.Report.{Report}
use Rattle.ps_bench_trials.specs.declared.outcome.Outcome.{Outcome}
use Rattle.ps_bench_trials.specs.Times.{time_in}
use Rattle.ps_bench_trials.specs.Outcomes.{ended_by}
use Rattle.ps_bench_trials.specs.declared.outcome.Outcome.TheVariants.{Silent}
use Rattle.ps_world.specs.Answers.{Answer, answers}
use Rattle.ps_world.specs.Worlds.{Machines, world_0}

-- What the answers of these items show beside the reports of the run without the fault: what the first scan shows that
-- ends the trial, and where none does, that it is silent.
abbrev pub shown : (struck : ℕ) → List Item → (meant : List Report) → List Answer → Outcome
shown struck [] meant given = Silent
shown struck (restart ∷ items) meant given = shown struck items meant given
shown struck (scan now ins ∷ items) [] given = Silent
shown struck (scan now ins ∷ items) (r ∷ meant) [] = Silent
shown struck (scan now ins ∷ items) (r ∷ meant) (a ∷ given) =
    unwrap_or (ended_by a.verdict struck now (first_difference a.report r)) (shown struck items meant given)

-- what the run of these items comes to where this fault strikes
abbrev pub outcome_of : Network → Machines → List Item → Fault → Outcome
outcome_of net m items f =
    shown (time_in f.scan items) items (quiet_reports net m items (world_0 m))
    (answers m (length net.outputs) (instance_count net) (f ∷ []) 1 items (world_0 m))
