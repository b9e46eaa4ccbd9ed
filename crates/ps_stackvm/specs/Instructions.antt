-- Instructions of stack code, and how one is read (profile).
use Rattle.std.specs.Prelude.{ℕ, ◌+◌, ◌==◌, nat_lt, nat_le, if◌then◌else◌, List, length, slice_index, Result, Ok, Err}
use Rattle.ps_stackvm.specs.declared.instruction.Instruction.{Instruction}
use Rattle.ps_stackvm.specs.declared.instruction.Instruction.TheVariants.{Load, Store, Const, And, Or, Call, End}
use Rattle.ps_stackvm.specs.declared.trap.Trap.{Trap}
use Rattle.ps_stackvm.specs.declared.trap.Trap.TheVariants.{NoOpcode, CodeEnd}
use Rattle.ps_machine.specs.Bytes.{be2, be4}

-- how many bytes an instruction has
abbrev pub size_of : Instruction → ℕ
size_of (Load signal) = 3
size_of (Store signal) = 3
size_of (Const byte) = 2
size_of And = 1
size_of Or = 1
size_of (Call instance kind first limit) = 10
size_of End = 1

-- an instruction, or a trap where its operands pass the code's end
abbrev pub whole : List ℕ → ℕ → Instruction → Result Instruction Trap
whole code pc i = if nat_lt (length code) (pc + size_of i) then Err CodeEnd else Ok i

-- the instruction at a place of the code, or the trap that reading it gives
abbrev pub fetched : List ℕ → ℕ → Result Instruction Trap
fetched code pc =
    let opcode = slice_index code pc in
    if nat_le (length code) pc then Err CodeEnd
    else (if opcode == 1 then whole code pc (Load (be2 code (pc + 1)))
    else (if opcode == 2 then whole code pc (Store (be2 code (pc + 1)))
    else (if opcode == 3 then whole code pc (Const (slice_index code (pc + 1)))
    else (if opcode == 4 then whole code pc And
    else (if opcode == 5 then whole code pc Or
    else (if opcode == 6 then whole code pc (Call (be2 code (pc + 1)) (slice_index code (pc + 3)) (be2 code (pc + 4)) (be4 code (pc + 6)))
    else (if opcode == 7 then whole code pc End
    else Err NoOpcode)))))))
