-- What a look at an operand finds, as the code has it.
use Rattle.std.specs.Prelude.{ℕ, Bool, ◌<◌, ◌==◌, if◌then◌else◌, Option, Some, None}
use Rattle.ps_machine.specs.Bytes.{is_no_bit}
use Rattle.ps_eqvm.specs.declared.operand.Operand.{Operand}
use Rattle.ps_eqvm.specs.declared.operand.Operand.TheVariants.{Cell, Constant, Bad}
use Rattle.ps_eqvm.specs.declared.operand.Found.{Found}
use Rattle.ps_eqvm.specs.declared.operand.Found.TheVariants.{Missing, Odd, Truth}

-- by the byte of the operand, where it has one
abbrev pub found_of : Option ℕ → Found
found_of None = Missing
found_of (Some byte) = if is_no_bit byte then Odd else Truth (byte == 1)

-- whether it is 1, where there is one
abbrev pub one_of : Option ℕ → Option Bool
one_of None = None
one_of (Some byte) = Some (byte == 1)

-- a cell is one of so many
abbrev pub IsWithin : ℕ → Operand → Type 0
IsWithin count (Cell i) = i < count
IsWithin count (Constant on) = Unit {0}
IsWithin count Bad = Unit {0}
