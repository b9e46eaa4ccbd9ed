use Rattle.std.proofs.Common.{◌*◌, ap, ◌∙◌}
use Rattle.ps_eqvm.specs.Plain.{complement}
use Rattle.ps_eqvm.proofs.Complements.{complement_replicate}
use Rattle.ps_eqvm.proofs.instances.InstanceBytes.all_zero.Goals as goal

pub returns : goal.returns
returns c = ap complement (c.in_ok-stored.ensures.items_if_clones_equal (λ y h. h)) ∙ complement_replicate (16 * c.args.instances) 255
