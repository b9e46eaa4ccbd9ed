-- The two machines of an application keep its meaning, and their reports have its sizes.
use Rattle.std.proofs.Common.{◌≡◌, ◌∙◌, ℕ, List, length, refl, sym, subst}
use Rattle.ps_model.specs.declared.sizes.Sizes.{Sizes}
use Rattle.ps_model.specs.Budgets.{turns_a, turns_b}
use Rattle.ps_model.specs.Network.{Network, instance_count}
use Rattle.ps_model.specs.Sized.{AreSizesOf}
use Rattle.ps_machine.specs.Keeping.{Keeps}
use Rattle.ps_machine.specs.Seats.{Seat_state, new_seat}
use Rattle.ps_machine.proofs.Reports.{report_in_sized}
use Rattle.ps_stackvm.specs.Channel.{machine_a, workings_a}
use Rattle.ps_stackvm.specs.Code.{code_a}
use Rattle.ps_stackvm.specs.Stands.{StandsA}
use Rattle.ps_eqvm.specs.Channel.{machine_b, workings_b}
use Rattle.ps_eqvm.specs.Code.{code_b}
use Rattle.ps_eqvm.specs.Stands.{StandsB}
use Rattle.ps_machine.specs.Outcomes.{GivesSized}
use Rattle.ps_world.specs.Whole.{Setup, machines_in, whole_of, IsSetupOf, IsWorldOf}

pub sized_a : (sizes : Sizes) (image : List ℕ) (budget : ℕ) → GivesSized (machine_a sizes image budget) sizes.outputs sizes.instances
sized_a sizes image budget cells r h = report_in_sized sizes _ _ r h

pub sized_b : (sizes : Sizes) (image : List ℕ) (budget : ℕ) → GivesSized (machine_b sizes image budget) sizes.outputs sizes.instances
sized_b sizes image budget cells r h = report_in_sized sizes _ _ r h

module _ (net : Network) (s : Setup) (built : IsSetupOf net s) where
  pub keeps_a : ((sizes : Sizes) → AreSizesOf net sizes → Keeps net (machine_a sizes (code_a net) (turns_a net)) (StandsA net)) → Keeps net (machines_in s).a (StandsA net)
  keeps_a keeps =
      subst (λ image. Keeps net (machine_a s.sizes image s.budget_a) (StandsA net)) (sym built.image_a)
      (subst (λ budget. Keeps net (machine_a s.sizes (code_a net) budget) (StandsA net)) (sym built.budget_a) (keeps s.sizes built.sizes))

  pub keeps_b : ((sizes : Sizes) → AreSizesOf net sizes → Keeps net (machine_b sizes (code_b net) (turns_b net)) (StandsB net)) → Keeps net (machines_in s).b (StandsB net)
  keeps_b keeps =
      subst (λ image. Keeps net (machine_b s.sizes image s.budget_b) (StandsB net)) (sym built.image_b)
      (subst (λ budget. Keeps net (machine_b s.sizes (code_b net) budget) (StandsB net)) (sym built.budget_b) (keeps s.sizes built.sizes))

  -- the reports have the sizes of the application
  pub sized_for_a : GivesSized (machines_in s).a (length net.outputs) (instance_count net)
  sized_for_a cells r h = let z = sized_a s.sizes s.image_a s.budget_a cells r h in (z.0 ∙ built.sizes.outputs, z.1 ∙ built.sizes.instances)

  pub sized_for_b : GivesSized (machines_in s).b (length net.outputs) (instance_count net)
  sized_for_b cells r h = let z = sized_b s.sizes s.image_b s.budget_b cells r h in (z.0 ∙ built.sizes.outputs, z.1 ∙ built.sizes.instances)

-- two new seats of an application are its world at the beginning
pub built_of : (net : Network) (sizes : Sizes) (a b : Seat_state) → AreSizesOf net sizes → a ≡ new_seat workings_a sizes (code_a net) (turns_a net) →
    b ≡ new_seat workings_b sizes (code_b net) (turns_b net) → IsWorldOf net (whole_of a b)
built_of net sizes a b sized is_a is_b =
    subst (λ x. IsWorldOf net (whole_of x b)) (sym is_a)
    (subst (λ y. IsWorldOf net (whole_of (new_seat workings_a sizes (code_a net) (turns_a net)) y)) (sym is_b)
    (record { setup = record { sizes = sized; image_a = refl; image_b = refl; budget_a = refl; budget_b = refl }; beginning = refl }))
