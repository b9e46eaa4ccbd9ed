-- What a step reads beside the state, as contracts see it.
use Rattle.std.specs.Prelude.{Bool, List}
use Rattle.ps_model.specs.PinBits.{pin_of}
use Rattle.ps_model.specs.declared.kind.Kind.{Kind}
use Rattle.ps_model.specs.Kept.{Kept}
use Rattle.ps_rows.specs.declared.view.BlockView.{BlockView}
use Rattle.ps_rows.specs.Names.{names}

-- the last inputs and the mode of a view; a view has neither state nor timer
abbrev pub last_of : BlockView → Kept
last_of v = record { code = 0; last_reset = v.last_reset; last_auxiliary = v.last_aux; mode = v.mode; timer = 0 }

-- The named conditions of a view.
abbrev pub names_in : Kind → BlockView → List Bool
names_in kind v = names kind (pin_of v.bits) v.elapsed (last_of v)
