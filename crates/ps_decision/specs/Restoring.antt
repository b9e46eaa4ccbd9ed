-- What channel C keeps of an application's state, and its cells once it is restored. Profile.
use Rattle.std.specs.Prelude.{ℕ, List}
use Rattle.std.specs.Int.{w32, to_be_bytes}
use Rattle.ps_model.specs.declared.sizes.Sizes.{Sizes}
use Rattle.ps_machine.specs.Carrying.{carried, filled}
use Rattle.ps_decision.specs.declared.layout.TheConstants.{TIME_AT, SIGNALS_AT}
use Rattle.ps_decision.specs.Channel.{blank_c}

-- the bytes of its signals and instances
abbrev pub carried_c : Sizes → List ℕ → List ℕ
carried_c z cells = carried z SIGNALS_AT cells

-- its cells at the time of the last scan, from the bytes of signals and instances
abbrev pub restored_c : Sizes → (time : ℕ) → (bytes : List ℕ) → List ℕ
restored_c z time bytes = filled (blank_c z) TIME_AT (to_be_bytes w32 time) SIGNALS_AT bytes
