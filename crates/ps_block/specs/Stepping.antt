-- One step of a block.
use Rattle.std.specs.Prelude.{◌≡◌}
use Rattle.ps_model.specs.declared.kind.Kind.{Kind}
use Rattle.ps_model.specs.Kept.{Kept, stepped_at}
use Rattle.ps_block.specs.declared.block.Outs.{Outs}
use Rattle.ps_block.specs.declared.block.Pins.{Pins}
use Rattle.ps_model.specs.PinBits.{pin_of}
use Rattle.ps_block.specs.Shown.{Shows}

-- What a block of the kind keeps after a step with these pins.
abbrev pub stepped_by : Kind → Pins → Kept → Kept
stepped_by kind pins kept = stepped_at kind pins.limit (pin_of pins.bits) pins.now kept

-- A step with these pins leads from what was kept before to what is kept after, and the answer shows the latter.
pub record IsStep (kind : Kind) (pins : Pins) (before after : Kept) (outs : Outs) : Type 0 where
  pub moves : after ≡ stepped_by kind pins before
  pub shows : Shows kind outs after
