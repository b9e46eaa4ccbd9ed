-- What a trial comes to, and the line that it counts in.
use Rattle.std.specs.Prelude.{ℕ, ◌+◌, ◌*◌, ◌-◌, Option, Some, None}
use Rattle.ps_model.specs.declared.channel.Cause.TheVariants.{Differ, Stuck, Trap, NoReport}
use Rattle.ps_model.specs.declared.channel.Channel.{Channel}
use Rattle.ps_model.specs.declared.channel.Channel.TheVariants.{A, B}
use Rattle.ps_model.specs.declared.channel.Region.{Region}
use Rattle.ps_model.specs.declared.channel.Region.TheVariants.{Code, Cells}
use Rattle.ps_model.specs.declared.channel.Verdict.{Verdict}
use Rattle.ps_model.specs.declared.channel.Verdict.TheVariants as verdicts
use Rattle.ps_bench_trials.specs.declared.outcome.Outcome.{Outcome}
use Rattle.ps_bench_trials.specs.declared.outcome.Outcome.TheVariants.{Silent, Tripped, Wrong}

-- the number of a channel
abbrev pub channel_number : Channel → ℕ
channel_number A = 0
channel_number B = 1

-- the number of a region
abbrev pub region_number : Region → ℕ
region_number Code = 0
region_number Cells = 1

-- the number of a kind of outcomes: silent, a trip by each of the four causes, wrong
abbrev pub kind_number : Outcome → ℕ
kind_number Silent = 0
kind_number (Tripped (Differ field) latency) = 1
kind_number (Tripped (Stuck channel) latency) = 2
kind_number (Tripped (Trap channel number) latency) = 3
kind_number (Tripped (NoReport channel) latency) = 4
kind_number Wrong = 5

-- the latency of a trip
abbrev pub latency_in : Outcome → Option ℕ
latency_in Silent = None
latency_in (Tripped cause latency) = Some latency
latency_in Wrong = None

-- the place of the line in which a trial counts: by channel, then by region, then by outcome
abbrev pub place_of : Channel → Region → Outcome → ℕ
place_of channel region outcome = 12 * channel_number channel + 6 * region_number region + kind_number outcome

-- What a scan at this time ends a trial with, if it does, where it differs from the run without the fault in this
-- field of its report, if in any: a trip, with its latency since the struck scan; or a report that is released and
-- differs.
abbrev pub ended_by : Verdict → (struck now : ℕ) → (differs : Option ℕ) → Option Outcome
ended_by verdicts.Released struck now None = None
ended_by verdicts.Released struck now (Some field) = Some Wrong
ended_by (verdicts.Tripped cause) struck now differs = Some (Tripped cause (now - struck))
ended_by verdicts.Down struck now differs = None
