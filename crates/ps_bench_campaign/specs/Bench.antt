-- What the trials of a campaign run on.
use Rattle.std.specs.Prelude.{◌≡◌, List, length}
use Rattle.ps_bench_trials.specs.declared.step.Step.{Step}
use Rattle.ps_eqvm.specs.Code.{code_b}
use Rattle.ps_model.specs.Network.{Network, instance_count}
use Rattle.ps_stackvm.specs.Code.{code_a}
use Rattle.ps_world.specs.Whole.{IsSetupOf}
use Rattle.ps_bench_campaign.specs.Marks.{AreMarks}
use Rattle.ps_bench_campaign.specs.declared.trials.Bench.{Bench}

-- What the trials over these steps run on: the codes are those of the application, the marks those of the steps, and a
-- world and a report have its sizes.
pub record IsBench (net : Network) (steps : List Step) (bench : Bench) : Type 0 where
  pub code_a : bench.codes.a ≡ code_a net
  pub code_b : bench.codes.b ≡ code_b net
  pub marks : AreMarks net steps bench.marks
  pub setup : IsSetupOf net bench.world.setup
  pub outputs : length bench.report.outs ≡ length net.outputs
  pub diagnoses : length bench.report.diags ≡ instance_count net
