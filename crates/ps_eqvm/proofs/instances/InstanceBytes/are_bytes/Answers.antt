use Rattle.std.proofs.Common.{subst, List, ℕ, ◌<◌}
use Rattle.std.specs.Prelude.{slice_index}
use Rattle.ps_eqvm.proofs.Complements.{complement_small}
use Rattle.ps_eqvm.proofs.instances.InstanceBytes.are_bytes.Goals as goal

pub returns : goal.returns
returns c = subst (λ (l : List ℕ). (i : ℕ) → slice_index l i < 256) c.self.view_is (complement_small c.self.inside.stored.items)
