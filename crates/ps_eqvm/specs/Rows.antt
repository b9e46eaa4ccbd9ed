-- Rows of equation code, and how one is read. Profile.
use Rattle.std.specs.Prelude.{ℕ, ◌+◌, ◌-◌, ◌*◌, true, false, ◌==◌, nat_lt, nat_le, if◌then◌else◌, List, length, map}
use Rattle.std.specs.Prelude.{slice_index, Result, Ok, Err}
use Rattle.std.specs.List.{range_with_len}
use Rattle.ps_base.specs.declared.limits.TheConstants.{MOST_SIGNALS}
use Rattle.ps_machine.specs.Bytes.{be2, be4}
use Rattle.ps_eqvm.specs.declared.layout.TheConstants.{WORK_CELLS}
use Rattle.ps_eqvm.specs.declared.opcode.Gate.TheVariants.{Set, All, Any}
use Rattle.ps_eqvm.specs.declared.opcode.Opcode.TheVariants.{Last, Target, Block}
use Rattle.ps_eqvm.specs.Opcodes.{byte_of_opcode}
use Rattle.ps_eqvm.specs.declared.operand.TheConstants.{FIRST_WORK_CELL, FALSE, TRUE}
use Rattle.ps_eqvm.specs.declared.operand.Operand.{Operand}
use Rattle.ps_eqvm.specs.declared.operand.Operand.TheVariants.{Cell, Constant, Bad}
use Rattle.ps_eqvm.specs.declared.trap.Trap.{Trap}
use Rattle.ps_eqvm.specs.declared.trap.Trap.TheVariants.{UnknownOpcode, PastEnd}

-- A row: LAST ends the scan, SET, ALL and ANY give a target the value of an operand or join it, BLOCK steps an instance
-- as a kind, writes its outputs from a signal on, and has a limit in ms and an operand for each pin.
pub data EquationRow : Type 0 where
  last_row : EquationRow
  set_row : (target operand : ℕ) → EquationRow
  all_row : (target operand : ℕ) → EquationRow
  any_row : (target operand : ℕ) → EquationRow
  block_row : (instance kind first limit : ℕ) (pins : List ℕ) → EquationRow

-- An operand is a signal or a work cell, a constant, or bad. Work cell k is cell k, and signal s is the cell s after
-- them.
abbrev pub operand_of : (signals number : ℕ) → Operand
operand_of signals number =
    if nat_lt number MOST_SIGNALS then (if nat_lt number signals then Cell (WORK_CELLS + number) else Bad)
    else (if nat_lt number FIRST_WORK_CELL then Bad
    else (if nat_lt number (FIRST_WORK_CELL + WORK_CELLS) then Cell (number - FIRST_WORK_CELL)
    else (if number == FALSE then Constant false
    else (if number == TRUE then Constant true
    else Bad))))

-- how many bytes a row has
abbrev pub size_of : EquationRow → ℕ
size_of last_row = 1
size_of (set_row target operand) = 5
size_of (all_row target operand) = 5
size_of (any_row target operand) = 5
size_of (block_row instance kind first limit pins) = 11 + 2 * length pins

-- A row, or the trap where it passes the code's end
abbrev pub whole : List ℕ → ℕ → EquationRow → Result EquationRow Trap
whole code at row = if nat_lt (length code) (at + size_of row) then Err PastEnd else Ok row

-- so many operands of two bytes, from a place on
abbrev pub operands : List ℕ → (at count : ℕ) → List ℕ
operands code at count = map (λ j. be2 code (at + 2 * j)) (range_with_len 0 count)

-- the BLOCK row at a place
abbrev pub block_at : List ℕ → ℕ → EquationRow
block_at code at =
    block_row (be2 code (at + 1)) (slice_index code (at + 3)) (be2 code (at + 4)) (be4 code (at + 6)) (operands code (at + 11) (slice_index code (at + 10)))

-- the row at a place of the code, or the trap that reading it gives: at or past the code's end, and for no opcode
abbrev pub fetched : List ℕ → ℕ → Result EquationRow Trap
fetched code at =
    let opcode = slice_index code at in
    if nat_le (length code) at then Err PastEnd
    else (if opcode == byte_of_opcode Last then whole code at last_row
    else (if opcode == byte_of_opcode (Target Set) then whole code at (set_row (be2 code (at + 1)) (be2 code (at + 3)))
    else (if opcode == byte_of_opcode (Target All) then whole code at (all_row (be2 code (at + 1)) (be2 code (at + 3)))
    else (if opcode == byte_of_opcode (Target Any) then whole code at (any_row (be2 code (at + 1)) (be2 code (at + 3)))
    else (if opcode == byte_of_opcode Block then whole code at (block_at code at)
    else Err UnknownOpcode)))))
