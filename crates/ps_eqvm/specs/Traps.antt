-- The numbers of the traps. Profile.
use Rattle.std.specs.Prelude.{ℕ}
use Rattle.ps_eqvm.specs.declared.trap.Trap.{Trap}
use Rattle.ps_eqvm.specs.declared.trap.Trap.TheVariants.{UnknownOpcode, PastEnd, PinCount, NotBoolean, OutOfRange}
use Rattle.ps_eqvm.specs.declared.trap.Trap.TheVariants.{NoInstance, NotLoaded}

-- The number of a trap, which means the same in every machine.
abbrev pub number_of : Trap → ℕ
number_of UnknownOpcode = 1
number_of PastEnd = 2
number_of PinCount = 3
number_of NotBoolean = 4
number_of OutOfRange = 5
number_of NoInstance = 6
number_of NotLoaded = 7
