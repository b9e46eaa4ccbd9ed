-- What channel A carries over stands for what its cells stand for, and so do its cells once it is restored from such bytes.
use Rattle.std.proofs.Common.{ℕ, ◌+◌, ◌*◌, List, arith}
use Rattle.std.specs.Int.{w32, to_be_bytes}
use Rattle.std.proofs.lemmas.List.{length-replicate}
use Rattle.ps_model.specs.declared.sizes.Sizes.{Sizes}
use Rattle.ps_model.specs.Kept.{Since}
use Rattle.ps_model.specs.Network.{Network}
use Rattle.ps_model.specs.Scanning.{State}
use Rattle.ps_model.specs.Sized.{AreSizesOf}
use Rattle.ps_machine.specs.Standing.{AreCellsOf}
use Rattle.ps_machine.proofs.Carrying.{carried_stands, filled_stands}
use Rattle.ps_stackvm.specs.Channel.{blank_a}
use Rattle.ps_stackvm.specs.Restoring.{carried_a, restored_a}
use Rattle.ps_stackvm.specs.Stands.{StandsA}

module _ (net : Network) (z : Sizes) (sizes : AreSizesOf net z) (w : State) (t : ℕ) where
  pub carries_a : (cells : List ℕ) → StandsA net w t cells → AreCellsOf net (λ i. Since t) w 0 (carried_a z cells)
  carries_a cells h = carried_stands net z sizes (λ i. Since t) w 74 cells h

  pub restores_a : (bytes : List ℕ) → AreCellsOf net (λ i. Since t) w 0 bytes → StandsA net w t (restored_a z t bytes)
  restores_a bytes h =
      filled_stands net z sizes (λ i. Since t) w (blank_a z) 6 (to_be_bytes w32 t) 74 bytes (omega arith)
      (length-replicate (74 + z.signals + 16 * z.instances) 0) h
