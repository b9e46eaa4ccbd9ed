-- The three machines of an application keep its meaning, their reports have its sizes, and a seat that is rebuilt stands.
use Rattle.std.proofs.Common.{◌≡◌, ◌∙◌, ℕ, ◌<◌, ◌^◌, List, length, sym, subst}
use Rattle.ps_model.specs.declared.sizes.Sizes.{Sizes}
use Rattle.ps_model.specs.Budgets.{turns_a, turns_b}
use Rattle.ps_model.specs.Network.{Network, instance_count}
use Rattle.ps_model.specs.Scanning.{State}
use Rattle.ps_model.specs.Sized.{AreSizesOf}
use Rattle.ps_model.specs.Sound.{IsSound}
use Rattle.ps_machine.specs.Keeping.{Keeps}
use Rattle.ps_machine.specs.Machines.{Machine}
use Rattle.ps_machine.proofs.Reports.{report_in_sized}
use Rattle.ps_machine.specs.Outcomes.{GivesSized}
use Rattle.ps_stackvm.specs.Channel.{machine_a}
use Rattle.ps_stackvm.specs.Code.{code_a}
use Rattle.ps_stackvm.specs.Stands.{StandsA}
use Rattle.ps_eqvm.specs.Channel.{machine_b}
use Rattle.ps_eqvm.specs.Code.{code_b}
use Rattle.ps_eqvm.specs.Stands.{StandsB}
use Rattle.ps_decision.specs.Budget.{turns_c}
use Rattle.ps_decision.specs.Channel.{machine_c}
use Rattle.ps_decision.specs.Code.{code_c}
use Rattle.ps_decision.specs.Stands.{StandsC}
use Rattle.ps_vote.specs.declared.seat.Seat.{Seat}
use Rattle.ps_vote.specs.declared.seat.Seat.TheVariants.{A, B, C}
use Rattle.ps_vote.specs.Worlds.{machine, source, rebuilt}
use Rattle.ps_vote.specs.Whole.{Setup, machines_in, IsSetupOf}
use Rattle.ps_vote.proofs.Heals.{heals_a, heals_b, heals_c}

-- when the cells of a seat stand for a state
abbrev pub stands : Network → Seat → State → (t : ℕ) → List ℕ → Type 0
stands net A w t cells = StandsA net w t cells
stands net B w t cells = StandsB net w t cells
stands net C w t cells = StandsC net w t cells

-- every report of a seat has the sizes of the setup
pub sized_in : (s : Setup) (seat : Seat) → GivesSized (machine seat (machines_in s)) s.sizes.outputs s.sizes.instances
sized_in s A cells r h = report_in_sized s.sizes _ _ r h
sized_in s B cells r h = report_in_sized s.sizes _ _ r h
sized_in s C cells r h = report_in_sized s.sizes _ _ r h

keeps_as : (net : Network) (make : List ℕ → ℕ → Machine) (Stands : State → ℕ → List ℕ → Type 0) (image code : List ℕ) (budget turns : ℕ) → image ≡ code → budget ≡ turns →
    Keeps net (make code turns) Stands → Keeps net (make image budget) Stands
keeps_as net make Stands image code budget turns same_image same_budget keeps =
    subst (λ i. Keeps net (make i budget) Stands) (sym same_image) (subst (λ b. Keeps net (make code b) Stands) (sym same_budget) keeps)

module _ (net : Network) (s : Setup) (built : IsSetupOf net s) where
  pub keeps_in : ((sizes : Sizes) → AreSizesOf net sizes → Keeps net (machine_a sizes (code_a net) (turns_a net)) (StandsA net)) →
      ((sizes : Sizes) → AreSizesOf net sizes → Keeps net (machine_b sizes (code_b net) (turns_b net)) (StandsB net)) →
      ((sizes : Sizes) → AreSizesOf net sizes → Keeps net (machine_c sizes (code_c net) (turns_c net)) (StandsC net)) →
      (seat : Seat) → Keeps net (machine seat (machines_in s)) (stands net seat)
  keeps_in ka kb kc A = keeps_as net (machine_a s.sizes) (StandsA net) s.image_a (code_a net) s.budget_a (turns_a net) built.image_a built.budget_a (ka s.sizes built.sizes)
  keeps_in ka kb kc B = keeps_as net (machine_b s.sizes) (StandsB net) s.image_b (code_b net) s.budget_b (turns_b net) built.image_b built.budget_b (kb s.sizes built.sizes)
  keeps_in ka kb kc C = keeps_as net (machine_c s.sizes) (StandsC net) s.image_c (code_c net) s.budget_c (turns_c net) built.image_c built.budget_c (kc s.sizes built.sizes)

  pub heals_in : IsSound net → (seat : Seat) (w : State) (t : ℕ) (cells : List ℕ) → t < 2 ^ 32 → stands net (source seat) w t cells →
      stands net seat w t (rebuilt seat (machines_in s) t cells)
  heals_in sound A w t cells small h = heals_a net s.sizes built.sizes w t cells h
  heals_in sound B w t cells small h = heals_b net s.sizes built.sizes sound s.limits built.limits w t cells small h
  heals_in sound C w t cells small h = heals_c net s.sizes built.sizes w t cells h

  pub sized_for : (seat : Seat) → GivesSized (machine seat (machines_in s)) (length net.outputs) (instance_count net)
  sized_for seat cells r h = let z = sized_in s seat cells r h in (z.0 ∙ built.sizes.outputs, z.1 ∙ built.sizes.instances)
