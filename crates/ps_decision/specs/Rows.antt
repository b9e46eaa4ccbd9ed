-- Rows of decision code, their bytes, and how one is read (profile).
use Rattle.std.specs.Prelude.{ℕ, ◌+◌, ◌==◌, nat_lt, nat_le, if◌then◌else◌, List, [], ◌∷◌, ◌++◌, length, slice_index}
use Rattle.std.specs.Prelude.{Result, Ok, Err}
use Rattle.std.specs.List.{flat_map}
use Rattle.std.specs.Int.{w16, w32, to_be_bytes}
use Rattle.ps_machine.specs.Bytes.{be2, be4}
use Rattle.ps_stackvm.specs.declared.trap.Trap.{Trap}
use Rattle.ps_stackvm.specs.declared.trap.Trap.TheVariants.{NoOpcode, CodeEnd}
use Rattle.ps_decision.specs.declared.row.Row.{Row}
use Rattle.ps_decision.specs.declared.row.Row.TheVariants.{Decide, Set, Call, End}

-- how many bytes a row has
abbrev pub size_of : Row → ℕ
size_of (Decide operand yes_at no_at) = 11
size_of (Set target byte next) = 8
size_of (Call instance kind first limit) = 10
size_of End = 1

-- the bytes of a row: its opcode, and its numbers big-endian
abbrev pub encoded : Row → List ℕ
encoded (Decide operand yes_at no_at) = 1 ∷ (to_be_bytes w16 operand ++ (to_be_bytes w32 yes_at ++ to_be_bytes w32 no_at))
encoded (Set target byte next) = 2 ∷ (to_be_bytes w16 target ++ (byte ∷ to_be_bytes w32 next))
encoded (Call instance kind first limit) = 3 ∷ (to_be_bytes w16 instance ++ (kind ∷ (to_be_bytes w16 first ++ to_be_bytes w32 limit)))
encoded End = 4 ∷ []

-- the bytes of rows one after another
abbrev pub bytes_of : List Row → List ℕ
bytes_of rows = flat_map encoded rows

-- a row, or a trap where it passes the code's end
abbrev pub whole : List ℕ → ℕ → Row → Result Row Trap
whole code at row = if nat_lt (length code) (at + size_of row) then Err CodeEnd else Ok row

-- the row at a place of the code, or the trap that reading it gives
abbrev pub fetched : List ℕ → ℕ → Result Row Trap
fetched code at =
    let opcode = slice_index code at in
    if nat_le (length code) at then Err CodeEnd
    else (if opcode == 1 then whole code at (Decide (be2 code (at + 1)) (be4 code (at + 3)) (be4 code (at + 7)))
    else (if opcode == 2 then whole code at (Set (be2 code (at + 1)) (slice_index code (at + 3)) (be4 code (at + 4)))
    else (if opcode == 3 then whole code at (Call (be2 code (at + 1)) (slice_index code (at + 3)) (be2 code (at + 4)) (be4 code (at + 6)))
    else (if opcode == 4 then whole code at End
    else Err NoOpcode))))
