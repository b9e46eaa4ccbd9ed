-- Where channel A's cells have what (profile). All of it is for any bytes.
use Rattle.std.specs.Prelude.{ℕ, ◌+◌, List, slice_index, slice_set}
use Rattle.std.specs.Int.{w32, to_be_bytes}
use Rattle.ps_machine.specs.Bytes.{be4, replaced, instance_bytes}
use Rattle.ps_stackvm.specs.declared.trap.Trap.{Trap}
use Rattle.ps_stackvm.specs.declared.layout.TheConstants.{HEIGHT_AT, PROGRESS_AT, TIME_AT, STACK_AT, SIGNALS_AT}
use Rattle.ps_stackvm.specs.Traps.{trap_number}

-- bytes 0 to 3: where in the code the next instruction stands
abbrev pub pc_of : List ℕ → ℕ
pc_of cells = be4 cells 0

-- byte 4: the height of the stack
abbrev pub height_of : List ℕ → ℕ
height_of cells = slice_index cells HEIGHT_AT

-- byte 5: the progress of the scan
abbrev pub progress_of : List ℕ → ℕ
progress_of cells = slice_index cells PROGRESS_AT

-- bytes 6 to 9: the time of the scan in ms
abbrev pub scan_time : List ℕ → ℕ
scan_time cells = be4 cells TIME_AT

-- from byte 10 on: the stack, of 64 bytes
abbrev pub stack_byte : List ℕ → ℕ → ℕ
stack_byte cells k = slice_index cells (STACK_AT + k)

-- from byte 74 on: one byte for each signal
abbrev pub signal_byte : List ℕ → ℕ → ℕ
signal_byte cells s = slice_index cells (SIGNALS_AT + s)

-- after the signals: sixteen bytes for each instance
abbrev pub block_bytes : (signals i : ℕ) → List ℕ → List ℕ
block_bytes signals i cells = instance_bytes (SIGNALS_AT + signals) i cells

-- the cells with another place of the next instruction
abbrev pub with_pc : ℕ → List ℕ → List ℕ
with_pc pc cells = replaced cells 0 (to_be_bytes w32 pc)

-- the cells with another height of the stack
abbrev pub with_height : ℕ → List ℕ → List ℕ
with_height height cells = slice_set cells HEIGHT_AT height

-- the cells with another head: another place of the next instruction, and another height of the stack
abbrev pub with_head : (pc height : ℕ) → List ℕ → List ℕ
with_head pc height cells = with_pc pc (with_height height cells)

-- the cells with another progress
abbrev pub with_progress : ℕ → List ℕ → List ℕ
with_progress progress cells = slice_set cells PROGRESS_AT progress

-- a trap leaves its number and one more in the progress byte, and nothing else
abbrev pub trapped : Trap → List ℕ → List ℕ
trapped trap cells = with_progress (trap_number trap + 1) cells
