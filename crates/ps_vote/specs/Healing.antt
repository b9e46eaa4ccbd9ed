-- The cells of a seat that is rebuilt from another, on any bytes. Profile.
use Rattle.std.specs.Prelude.{ℕ, List}
use Rattle.ps_model.specs.declared.sizes.Sizes.{Sizes}
use Rattle.ps_stackvm.specs.Restoring.{carried_a, restored_a}
use Rattle.ps_eqvm.specs.Restoring.{restored_b}
use Rattle.ps_decision.specs.Restoring.{carried_c, restored_c}

-- seat A at the time of the last scan, from the cells of seat C
abbrev pub rebuilt_a : Sizes → (t : ℕ) → List ℕ → List ℕ
rebuilt_a z t source = restored_a z t (carried_c z source)

-- seat B, as its cells are stored, by the limits of the instances, from the cells of seat A
abbrev pub rebuilt_b : Sizes → (limits : List ℕ) → (t : ℕ) → List ℕ → List ℕ
rebuilt_b z limits t source = restored_b z limits t (carried_a z source)

-- seat C, from the cells of seat A
abbrev pub rebuilt_c : Sizes → (t : ℕ) → List ℕ → List ℕ
rebuilt_c z t source = restored_c z t (carried_a z source)
