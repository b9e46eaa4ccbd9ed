-- What a trial comes to in a world of the application is what it comes to by the definition.
use Rattle.std.proofs.Common.{◌≡◌, ◌∙◌, ℕ, List, [], ◌∷◌, length, sym, subst}
use Rattle.ps_bench_campaign.specs.Courses.{meant_in, quiet_reports}
use Rattle.ps_bench_trials.specs.Steps.{items_in}
use Rattle.ps_bench_trials.specs.declared.step.Step.{Step}
use Rattle.ps_eqgen.proofs.SameSizes.{same_sizes}
use Rattle.ps_model.specs.Network.{Network, instance_count}
use Rattle.ps_model.specs.declared.channel.Fault.{Fault}
use Rattle.ps_bench_trials.specs.declared.outcome.Outcome.{Outcome}
use Rattle.ps_world.specs.Answers.{answers}
use Rattle.ps_world.specs.Whole.{Setup, IsSetupOf, machines_in}
use Rattle.ps_world.specs.Worlds.{world_0}
use Rattle.ps_bench_campaign.specs.Marks.{shown_from}
use Rattle.ps_bench_trials.specs.Times.{time_in}
use Rattle.ps_bench_campaign.specs.Showing.{outcome_of, shown}

-- what never changes of an application's world is one
pub one_setup : (net : Network) (s t : Setup) → IsSetupOf net s → IsSetupOf net t → s ≡ t
one_setup net s t is is' =
    let sizes_are : s.sizes ≡ t.sizes =
    same_sizes s.sizes t.sizes (is.sizes.signals ∙ sym is'.sizes.signals) (is.sizes.instances ∙ sym is'.sizes.instances) (is.sizes.inputs ∙ sym is'.sizes.inputs)
    (is.sizes.outputs ∙ sym is'.sizes.outputs) (is.sizes.first_pins ∙ sym is'.sizes.first_pins) (is.sizes.kinds ∙ sym is'.sizes.kinds) in
    λ i. record {
      sizes = sizes_are i;
      image_a = (is.image_a ∙ sym is'.image_a) i;
      image_b = (is.image_b ∙ sym is'.image_b) i;
      budget_a = (is.budget_a ∙ sym is'.budget_a) i;
      budget_b = (is.budget_b ∙ sym is'.budget_b) i;
    }

pub outcome_is : (net : Network) (own setup : Setup) (steps : List Step) (f : Fault) (struck : ℕ) (outcome : Outcome) →
    IsSetupOf net own → IsSetupOf net setup →
    ((s : Setup) → IsSetupOf net s → meant_in steps ≡ quiet_reports net (machines_in s) (items_in steps) (world_0 (machines_in s))) →
    struck ≡ time_in f.scan (items_in steps) →
    outcome ≡ shown_from (machines_in own) (length net.outputs) (instance_count net) (f ∷ []) struck 0 steps (world_0 (machines_in own)) →
    outcome ≡ outcome_of net (machines_in setup) (items_in steps) f
outcome_is net own setup steps f struck outcome own_is setup_is meant_are struck_is shows =
    subst (λ (s : Setup). outcome ≡ outcome_of net (machines_in s) (items_in steps) f) (one_setup net own setup own_is setup_is)
    (shows ∙ (λ i. shown (struck_is i) (items_in steps) (meant_are own own_is i)
    (answers (machines_in own) (length net.outputs) (instance_count net) (f ∷ []) 1 (items_in steps) (world_0 (machines_in own)))))
