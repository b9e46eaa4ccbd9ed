-- Where channel C's cells have what (profile). All of it is for any bytes.
use Rattle.std.specs.Prelude.{ℕ, ◌+◌, ◌-◌, ◌&&◌, nat_lt, nat_le, if◌then◌else◌, List, take, drop, slice_index}
use Rattle.std.specs.Prelude.{slice_set, Option, Some, None}
use Rattle.std.specs.Int.{w32, to_be_bytes}
use Rattle.ps_machine.specs.Bytes.{be4, replaced, instance_bytes}
use Rattle.ps_stackvm.specs.declared.trap.Trap.{Trap}
use Rattle.ps_stackvm.specs.Traps.{trap_number}
use Rattle.ps_decision.specs.declared.layout.TheConstants.{PROGRESS_AT, TIME_AT, PINS_AT, PIN_CELLS, SIGNALS_AT}
use Rattle.ps_decision.specs.declared.layout.TheConstants.{FIRST_PIN}

-- bytes 0 to 3: where in the code the next row stands
abbrev pub offset_of : List ℕ → ℕ
offset_of cells = be4 cells 0

-- byte 4: the progress of the scan
abbrev pub progress_of : List ℕ → ℕ
progress_of cells = slice_index cells PROGRESS_AT

-- bytes 5 to 8: the time of the scan in ms
abbrev pub scan_time : List ℕ → ℕ
scan_time cells = be4 cells TIME_AT

-- from byte 9 on: the first n of the thirteen pin cells
abbrev pub pin_bytes : (n : ℕ) → List ℕ → List ℕ
pin_bytes n cells = take n (drop PINS_AT cells)

-- after the signals, which begin with byte 22: sixteen bytes for each instance
abbrev pub block_bytes : (signals i : ℕ) → List ℕ → List ℕ
block_bytes signals i cells = instance_bytes (SIGNALS_AT + signals) i cells

-- where the cell of an operand stands: F000 to F00C is pin cell 0 to 12, every other number below that of the signals
-- is a signal, and others are bad
abbrev pub place_of : (signals operand : ℕ) → Option ℕ
place_of signals operand =
    if nat_le FIRST_PIN operand && nat_lt operand (FIRST_PIN + PIN_CELLS) then Some (PINS_AT + (operand - FIRST_PIN))
    else (if nat_lt operand signals then Some (SIGNALS_AT + operand)
    else None)

-- the cells with another place of the next row
abbrev pub with_offset : ℕ → List ℕ → List ℕ
with_offset offset cells = replaced cells 0 (to_be_bytes w32 offset)

-- the cells with another progress
abbrev pub with_progress : ℕ → List ℕ → List ℕ
with_progress progress cells = slice_set cells PROGRESS_AT progress

-- a trap leaves its number and one more in the progress byte, and nothing else
abbrev pub trapped : Trap → List ℕ → List ℕ
trapped trap cells = with_progress (trap_number trap + 1) cells
