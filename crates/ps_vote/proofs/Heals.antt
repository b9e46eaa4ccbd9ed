-- A seat that is rebuilt stands for what its source stands for: A from C, B and C from A.
use Rattle.std.proofs.Common.{◌≡◌, ℕ, ◌<◌, ◌^◌, List, length, sym, ap, ◌∙◌, arith, get_or}
use Rattle.std.proofs.lemmas.List.FromFn.{length-map-range_with_len, get_or-map-range_with_len}
use Rattle.ps_model.specs.declared.sizes.Sizes.{Sizes}
use Rattle.ps_model.specs.Network.{Network, instance_count}
use Rattle.ps_model.specs.Scanning.{State}
use Rattle.ps_model.specs.Sized.{AreSizesOf}
use Rattle.ps_model.specs.Sound.{IsSound}
use Rattle.ps_machine.specs.Standing.{limit_in}
use Rattle.ps_stackvm.specs.Restoring.{carried_a}
use Rattle.ps_stackvm.specs.Stands.{StandsA}
use Rattle.ps_stackvm.proofs.Restoring.{carries_a, restores_a}
use Rattle.ps_eqvm.specs.Stands.{StandsB}
use Rattle.ps_eqvm.proofs.Restoring.{restores_b}
use Rattle.ps_decision.specs.Restoring.{carried_c}
use Rattle.ps_decision.specs.Stands.{StandsC}
use Rattle.ps_decision.proofs.Restoring.{carries_c, restores_c}
use Rattle.ps_vote.specs.Healing.{rebuilt_a, rebuilt_b, rebuilt_c}
use Rattle.ps_vote.specs.Whole.{limits_of}

module _ (net : Network) (z : Sizes) (sizes : AreSizesOf net z) where
  pub heals_a : (w : State) (t : ℕ) (cells : List ℕ) → StandsC net w t cells → StandsA net w t (rebuilt_a z t cells)
  heals_a w t cells h = restores_a net z sizes w t (carried_c z cells) (carries_c net z sizes w t cells h)

  pub heals_b : IsSound net → (limits : List ℕ) → limits ≡ limits_of net → (w : State) (t : ℕ) (cells : List ℕ) → t < 2 ^ 32 → StandsA net w t cells →
      StandsB net w t (rebuilt_b z limits t cells)
  heals_b sound limits are w t cells small h =
      let many : length limits ≡ z.instances = ap length are ∙ length-map-range_with_len (limit_in net) 0 (instance_count net) ∙ sym sizes.instances in
      restores_b net z sizes sound limits many
      (λ i low. ap (λ l. get_or l i 0) are ∙ get_or-map-range_with_len (limit_in net) 0 (instance_count net) i i 0 low (omega arith))
      w t (carried_a z cells) small (carries_a net z sizes w t cells h)

  pub heals_c : (w : State) (t : ℕ) (cells : List ℕ) → StandsA net w t cells → StandsC net w t (rebuilt_c z t cells)
  heals_c w t cells h = restores_c net z sizes w t (carried_a z cells) (carries_a net z sizes w t cells h)
