-- The first bytes of rows. Profile.
use Rattle.std.specs.Prelude.{ℕ}
use Rattle.ps_eqvm.specs.declared.opcode.Gate.TheVariants.{Set, All, Any}
use Rattle.ps_eqvm.specs.declared.opcode.Opcode.{Opcode}
use Rattle.ps_eqvm.specs.declared.opcode.Opcode.TheVariants.{Last, Target, Block}

-- The byte that a row begins with, by what it does.
abbrev pub byte_of_opcode : Opcode → ℕ
byte_of_opcode Last = 0xF0
byte_of_opcode (Target Set) = 0xF1
byte_of_opcode (Target All) = 0xF2
byte_of_opcode (Target Any) = 0xF3
byte_of_opcode Block = 0xF4
