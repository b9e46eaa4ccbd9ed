-- One step of an instance: in its sixteen bytes, and in the cells of a machine.
use Rattle.std.specs.Prelude.{◌≡◌, ℕ, List, map, take, drop, Some}
use Rattle.ps_model.specs.declared.kind.Kind.{Kind}
use Rattle.ps_model.specs.Blocks.{outs}
use Rattle.ps_model.specs.Kept.{Kept}
use Rattle.ps_model.specs.Stored.{loaded, stored}
use Rattle.ps_machine.specs.Bytes.{bit, replaced}
use Rattle.ps_block.specs.declared.block.Outs.{Outs}
use Rattle.ps_block.specs.declared.block.Pins.{Pins}
use Rattle.ps_block.specs.Shown.{Shows}
use Rattle.ps_block.specs.Stepping.{stepped_by}

-- The bytes before load, those after are stored by the step, and the answer shows it.
pub record IsStepInBytes (kind : Kind) (pins : Pins) (before after : List ℕ) (outs : Outs) : Type 0 where
  pub kept : Kept
  pub loads : loaded kind before ≡ Some kept
  pub stores : after ≡ stored (stepped_by kind pins kept)
  pub shows : Shows kind outs (stepped_by kind pins kept)

-- the cells with what a block keeps stored in the sixteen bytes at a place, and with its outputs from another place on
abbrev pub stepped_in : Kind → (place first : ℕ) → Kept → List ℕ → List ℕ
stepped_in kind place first kept cells = replaced (replaced cells place (stored kept)) first (map bit (outs kind kept.code kept.mode))

-- The sixteen bytes at a place load, and the cells after are those before with what the step makes of it, and with its
-- outputs.
pub record HasStepped (kind : Kind) (pins : Pins) (place first : ℕ) (before after : List ℕ) : Type 0 where
  pub kept : Kept
  pub loads : loaded kind (take 16 (drop place before)) ≡ Some kept
  pub writes : after ≡ stepped_in kind place first (stepped_by kind pins kept) before
