-- What channel A keeps of an application's state, and its cells once it is restored. Profile.
use Rattle.std.specs.Prelude.{ℕ, List}
use Rattle.std.specs.Int.{w32, to_be_bytes}
use Rattle.ps_model.specs.declared.sizes.Sizes.{Sizes}
use Rattle.ps_machine.specs.Carrying.{carried, filled}
use Rattle.ps_stackvm.specs.declared.layout.TheConstants.{TIME_AT, SIGNALS_AT}
use Rattle.ps_stackvm.specs.Channel.{blank_a}

-- the bytes of its signals and instances
abbrev pub carried_a : Sizes → List ℕ → List ℕ
carried_a z cells = carried z SIGNALS_AT cells

-- its cells at the time of the last scan, from the bytes of signals and instances
abbrev pub restored_a : Sizes → (time : ℕ) → (bytes : List ℕ) → List ℕ
restored_a z time bytes = filled (blank_a z) TIME_AT (to_be_bytes w32 time) SIGNALS_AT bytes
