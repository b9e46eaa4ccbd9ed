-- No trial is wrong.
use Rattle.std.specs.Prelude.{◌≢◌, List}
use Rattle.ps_model.specs.Meaning.{Item}
use Rattle.ps_model.specs.Network.{Network, input_count}
use Rattle.ps_model.specs.declared.channel.Fault.{Fault}
use Rattle.ps_machine.specs.Items.{AreTimely}
use Rattle.ps_bench_trials.specs.declared.outcome.Outcome.TheVariants.{Wrong}
use Rattle.ps_world.specs.Whole.{Setup, IsSetupOf, machines_in}
use Rattle.ps_bench_campaign.specs.Showing.{outcome_of}

-- No trial of an application is wrong: whatever its one fault is, each report that is released is that of the run
-- without the fault.
abbrev pub NoneIsWrong : Network → Type 0
NoneIsWrong net = (setup : Setup) → IsSetupOf net setup → (items : List Item) → AreTimely (input_count net) 0 items →
    (f : Fault) → outcome_of net (machines_in setup) items f ≢ Wrong
