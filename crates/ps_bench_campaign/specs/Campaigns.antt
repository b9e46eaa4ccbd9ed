-- The trials of a campaign, and what is counted of them.
use Rattle.std.specs.Prelude.{ℕ, List, Option, map, max}
use Rattle.std.specs.List.{range_with_len}
use Rattle.ps_eqvm.specs.Code.{code_b}
use Rattle.ps_model.specs.Budgets.{turns_a, turns_b}
use Rattle.ps_model.specs.Meaning.{Item}
use Rattle.ps_model.specs.Network.{Network}
use Rattle.ps_model.specs.declared.channel.Channel.{Channel}
use Rattle.ps_model.specs.declared.channel.ImageSizes.{ImageSizes}
use Rattle.ps_stackvm.specs.Code.{code_a}
use Rattle.ps_bench_trials.specs.Tallies.{Result_of, all_counted, none_counted}
use Rattle.ps_bench_trials.specs.declared.line.Line.{Line}
use Rattle.ps_bench_trials.specs.Faults.{fault_by}
use Rattle.ps_bench_trials.specs.Trials.{trial_of}
use Rattle.ps_bench_trials.specs.declared.drawing.Room.{Room}
use Rattle.ps_world.specs.Worlds.{Machines}
use Rattle.ps_bench_campaign.specs.Showing.{outcome_of}

-- what the trials of an application may strike in a run of so many scans
abbrev pub room_of : Network → ImageSizes → (scans : ℕ) → Option Channel → Room
room_of net sizes scans channel =
    record { sizes = sizes; scans = scans; budget = max (turns_a net) (turns_b net); channel = channel }

-- where the trial of a number strikes, and what it comes to
abbrev pub result_of : Network → Machines → List Item → Room → (number : ℕ) → Result_of
result_of net m items room number =
    let t = trial_of room number in
    record {
      channel = t.channel;
      region = t.region;
      outcome = outcome_of net m items (fault_by (code_a net) (code_b net) t);
    }

-- what is counted of so many trials, from this number on
abbrev pub campaign : Network → Machines → List Item → Room → (from count : ℕ) → List Line
campaign net m items room from count = all_counted none_counted (map (result_of net m items room) (range_with_len from count))
