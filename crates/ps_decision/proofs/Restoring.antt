-- What channel C carries over stands for what its cells stand for, and so do its cells once it is restored from such bytes.
use Rattle.std.proofs.Common.{ℕ, ◌+◌, ◌*◌, List, arith}
use Rattle.std.specs.Int.{w32, to_be_bytes}
use Rattle.std.proofs.lemmas.List.{length-replicate}
use Rattle.ps_model.specs.declared.sizes.Sizes.{Sizes}
use Rattle.ps_model.specs.Kept.{Since}
use Rattle.ps_model.specs.Network.{Network}
use Rattle.ps_model.specs.Scanning.{State}
use Rattle.ps_model.specs.Sized.{AreSizesOf}
use Rattle.ps_machine.specs.Standing.{AreCellsOf}
use Rattle.ps_machine.proofs.Carrying.{carried_stands, filled_stands}
use Rattle.ps_decision.specs.Channel.{blank_c}
use Rattle.ps_decision.specs.Restoring.{carried_c, restored_c}
use Rattle.ps_decision.specs.Stands.{StandsC}

module _ (net : Network) (z : Sizes) (sizes : AreSizesOf net z) (w : State) (t : ℕ) where
  pub carries_c : (cells : List ℕ) → StandsC net w t cells → AreCellsOf net (λ i. Since t) w 0 (carried_c z cells)
  carries_c cells h = carried_stands net z sizes (λ i. Since t) w 22 cells h

  pub restores_c : (bytes : List ℕ) → AreCellsOf net (λ i. Since t) w 0 bytes → StandsC net w t (restored_c z t bytes)
  restores_c bytes h =
      filled_stands net z sizes (λ i. Since t) w (blank_c z) 5 (to_be_bytes w32 t) 22 bytes (omega arith)
      (length-replicate (22 + z.signals + 16 * z.instances) 0) h
