use Rattle.std.proofs.Common.{subst, List, ℕ, ◌<◌}
use Rattle.std.specs.Prelude.{slice_index}
use Rattle.ps_eqvm.proofs.KeptBits.{cell_bytes}
use Rattle.ps_eqvm.proofs.cells.BitCells.are_bytes.Goals as goal

pub returns : goal.returns
returns c =
    subst (λ (l : List ℕ). (i : ℕ) → slice_index l i < 256) c.self.view_is
    (cell_bytes c.self.inside.value.items c.self.inside.odd.items c.self.inside.counted.items
    (subst (λ (l : List ℕ). (i : ℕ) → slice_index l i < 256) c.deref.ensures.value c.are_bytes.ensures))
