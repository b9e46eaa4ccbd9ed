-- What a step of an instance's block makes of the instance.
use Rattle.std.proofs.Common.{◌≡◌, ◌∙◌, ap, sym, subst}
use Rattle.ps_model.specs.Kept.{Kept, stepped_at}
use Rattle.ps_model.specs.PinBits.{pin_of}
use Rattle.ps_block.specs.declared.block.Pins.{Pins}
use Rattle.ps_block.specs.Shown.{Shows}
use Rattle.ps_block.specs.declared.block.Outs.{Outs}
use Rattle.ps_scan.specs.Instances.{KeptInstance, kept_instance, instance_of}
use Rattle.ps_scan.specs.declared.instance.Instance.{Instance}

-- an instance of a known kind is stepped by the block of its kind
pub moves_as : (pins : Pins) → {w v : Instance} {after : Kept} → w ≡ v →
    after ≡ stepped_at (instance_of v).kind pins.limit (pin_of pins.bits) pins.now (instance_of v).kept →
    kept_instance (instance_of v).kind after
    ≡ kept_instance (instance_of w).kind (stepped_at (instance_of w).kind pins.limit (pin_of pins.bits) pins.now (instance_of w).kept)
moves_as pins {v = v} is moves =
    ap (kept_instance (instance_of v).kind) moves
    ∙ ap (λ (u : Instance). kept_instance (instance_of u).kind (stepped_at (instance_of u).kind pins.limit (pin_of pins.bits) pins.now (instance_of u).kept)) (sym is)

-- and its answer shows what that kind keeps
pub shows_as : {w v : Instance} {outs : Outs} {after : Kept} → w ≡ v → Shows (instance_of v).kind outs after →
    Shows (instance_of w).kind outs after
shows_as {outs = outs} {after = after} is shows = subst (λ (u : Instance). Shows (instance_of u).kind outs after) (sym is) shows
