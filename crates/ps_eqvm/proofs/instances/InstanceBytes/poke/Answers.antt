use Rattle.std.proofs.Common.{ap, ◌∙◌, List, ℕ, ◌<◌, arith}
use Rattle.std.specs.Prelude.{slice_set}
use Rattle.ps_eqvm.proofs.Complements.{complement_set}
use Rattle.ps_eqvm.proofs.instances.InstanceBytes.poke.Goals as goal

pub returns : goal.returns
returns c =
    let small : c.args.byte < 256 = omega arith in
    complement_set c.self.inside.stored.items c.args.at c.args.byte small ∙ ap (λ (l : List ℕ). slice_set l c.args.at c.args.byte) c.self.view_is
