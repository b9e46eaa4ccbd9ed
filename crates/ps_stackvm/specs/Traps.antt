-- Traps by their numbers (profile).
use Rattle.std.specs.Prelude.{ℕ}
use Rattle.ps_stackvm.specs.declared.trap.Trap.{Trap}
use Rattle.ps_stackvm.specs.declared.trap.Trap.TheVariants.{NoOpcode, CodeEnd, StackHeight, NotBoolean, NoSignal}
use Rattle.ps_stackvm.specs.declared.trap.Trap.TheVariants.{NoInstance, NoState}

-- the number of a trap
abbrev pub trap_number : Trap → ℕ
trap_number NoOpcode = 1
trap_number CodeEnd = 2
trap_number StackHeight = 3
trap_number NotBoolean = 4
trap_number NoSignal = 5
trap_number NoInstance = 6
trap_number NoState = 7
