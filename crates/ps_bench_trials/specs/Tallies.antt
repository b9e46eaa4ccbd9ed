-- What is counted of trials, one after another.
use Rattle.std.specs.Prelude.{List, [], ◌∷◌, replicate, slice_index_or, slice_set}
use Rattle.ps_model.specs.declared.channel.Channel.{Channel}
use Rattle.ps_model.specs.declared.channel.Region.{Region}
use Rattle.ps_bench_trials.specs.declared.line.Line.{Line}
use Rattle.ps_bench_trials.specs.declared.outcome.Outcome.{Outcome}
use Rattle.ps_bench_trials.specs.Lines.{counted_in, no_trial}
use Rattle.ps_bench_trials.specs.Outcomes.{latency_in, place_of}

-- no trials: each of the 24 lines is empty
abbrev pub none_counted : List Line
none_counted = replicate 24 no_trial

-- the lines with a trial more of this channel and region
abbrev pub counted : List Line → Channel → Region → Outcome → List Line
counted lines channel region outcome =
    let place = place_of channel region outcome in
    slice_set lines place (counted_in (slice_index_or lines place no_trial) (latency_in outcome))

-- where a trial struck, and what it came to
pub record Result_of : Type 0 where
  pub channel : Channel
  pub region : Region
  pub outcome : Outcome

-- the lines with these trials more, one after another
abbrev pub all_counted : List Line → List Result_of → List Line
all_counted lines [] = lines
all_counted lines (r ∷ rs) = all_counted (counted lines r.channel r.region r.outcome) rs
