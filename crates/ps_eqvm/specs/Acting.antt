-- What each row leaves of the plain cells. `next` is where the following row stands. The traps of each are tried in the
-- order in which they are written. Profile.
use Rattle.std.specs.Prelude.{ℕ, ◌+◌, ◌*◌, Bool, true, false, ◌==◌, ◌||◌, not, nat_lt, nat_le, if◌then◌else◌, List}
use Rattle.std.specs.Prelude.{length, map, slice_index, slice_index_or, slice_set, Option, Some, None}
use Rattle.std.specs.List.{list_any}
use Rattle.ps_model.specs.declared.kind.Kind.{Kind}
use Rattle.ps_model.specs.Blocks.{outs, output_count}
use Rattle.ps_model.specs.Budgets.{boolean_count}
use Rattle.ps_model.specs.Kept.{Kept, counted_down}
use Rattle.ps_model.specs.Stored.{stored, loaded}
use Rattle.ps_machine.specs.Bytes.{bit, is_no_bit, replaced, instance_bytes}
use Rattle.ps_eqvm.specs.declared.operand.Operand.{Operand}
use Rattle.ps_eqvm.specs.declared.operand.Operand.TheVariants.{Cell, Constant, Bad}
use Rattle.ps_machine.specs.Kinds.{kind_of}
use Rattle.ps_eqvm.specs.Plain.{Plain}
use Rattle.ps_eqvm.specs.Rows.{operand_of}
use Rattle.ps_eqvm.specs.Traps.{number_of}
use Rattle.ps_eqvm.specs.declared.layout.TheConstants.{WORK_CELLS}
use Rattle.ps_eqvm.specs.declared.trap.Trap.{Trap}
use Rattle.ps_eqvm.specs.declared.trap.Trap.TheVariants.{PinCount, NotBoolean, OutOfRange, NoInstance, NotLoaded}

-- a trap leaves its mark in the progress, and nothing else
abbrev pub trapped : Trap → Plain → Plain
trapped trap p = record p { progress = number_of trap + 1 }

-- LAST ends the scan.
abbrev pub after_last : (next : ℕ) → Plain → Plain
after_last next p = record p { offset = next; progress = 1 }

-- the byte of an operand, or none where the operand is bad
abbrev pub byte_of : (cells : List ℕ) → Operand → Option ℕ
byte_of cells (Cell i) = Some (slice_index cells i)
byte_of cells (Constant on) = Some (bit on)
byte_of cells Bad = None

-- the cell of a target, or none where the target is no cell
abbrev pub target_of : Operand → Option ℕ
target_of (Cell i) = Some i
target_of (Constant on) = None
target_of Bad = None

-- a cell has a new byte
abbrev pub with_cell : (i byte next : ℕ) → Plain → Plain
with_cell i byte next p = record p { offset = next; cells = slice_set p.cells i byte }

-- SET gives a target the value of an operand.
abbrev pub after_set : (target byte : Option ℕ) → (next : ℕ) → Plain → Plain
after_set None byte next p = trapped OutOfRange p
after_set (Some i) None next p = trapped OutOfRange p
after_set (Some i) (Some byte) next p = if is_no_bit byte then trapped NotBoolean p else with_cell i byte next p

-- ALL and ANY join a target with an operand.
abbrev pub after_join : (ℕ → ℕ → ℕ) → (target byte : Option ℕ) → (next : ℕ) → Plain → Plain
after_join join None byte next p = trapped OutOfRange p
after_join join (Some i) None next p = trapped OutOfRange p
after_join join (Some i) (Some byte) next p =
    if is_no_bit byte || is_no_bit (slice_index p.cells i) then trapped NotBoolean p
    else with_cell i (join (slice_index p.cells i) byte) next p

-- ---- BLOCK

-- the bytes of the pins
abbrev pub pin_bytes : (signals : ℕ) → (cells pins : List ℕ) → List (Option ℕ)
pin_bytes signals cells pins = map (λ number. byte_of cells (operand_of signals number)) pins

-- an operand is bad
abbrev pub is_missing : Option ℕ → Bool
is_missing None = true
is_missing (Some byte) = false

-- an operand's byte is neither 0 nor 1
abbrev pub is_odd : Option ℕ → Bool
is_odd None = false
is_odd (Some byte) = is_no_bit byte

-- an operand's byte is 1
abbrev pub is_on : Option ℕ → Bool
is_on None = false
is_on (Some byte) = byte == 1

-- the Boolean pins as a step reads them
abbrev pub pins_on : List (Option ℕ) → ℕ → Bool
pins_on bytes j = is_on (slice_index_or bytes j None)

-- the instance keeps its new state, and its outputs are written
abbrev pub settled : (instance first : ℕ) → Kind → Kept → (next : ℕ) → Plain → Plain
settled instance first kind kept next p = record p {
  offset = next;
  cells = replaced p.cells (WORK_CELLS + first) (map bit (outs kind kept.code kept.mode));
  blocks = replaced p.blocks (16 * instance) (stored kept);
}

-- a step of what the instance's bytes keep, by the time passed in this scan
abbrev pub after_step : (instance first limit : ℕ) → Kind → (ℕ → Bool) → (next : ℕ) → Option Kept → Plain → Plain
after_step instance first limit kind pins next None p = trapped NotLoaded p
after_step instance first limit kind pins next (Some kept) p = settled instance first kind (counted_down kind limit pins p.passed kept) next p

-- a BLOCK of an instance as a kind, with the bytes of its pins
abbrev pub block_as : (signals instance first limit : ℕ) → Kind → List (Option ℕ) → (next : ℕ) → Plain → Plain
block_as signals instance first limit kind bytes next p =
    if nat_lt signals (first + output_count kind) || list_any is_missing bytes then trapped OutOfRange p
    else (if not (length bytes == boolean_count kind) then trapped PinCount p
    else (if list_any is_odd bytes then trapped NotBoolean p
    else after_step instance first limit kind (pins_on bytes) next (loaded kind (instance_bytes 0 instance p.blocks)) p))

-- the same where the number is that of a kind
abbrev pub block_by : (signals instance first limit : ℕ) → Option Kind → List (Option ℕ) → (next : ℕ) → Plain → Plain
block_by signals instance first limit None bytes next p = trapped NoInstance p
block_by signals instance first limit (Some kind) bytes next p = block_as signals instance first limit kind bytes next p

-- BLOCK steps an instance.
abbrev pub after_block : (signals instances instance kind first limit : ℕ) → (pins : List ℕ) → (next : ℕ) → Plain → Plain
after_block signals instances instance kind first limit pins next p =
    if nat_le instances instance then trapped NoInstance p
    else block_by signals instance first limit (kind_of kind) (pin_bytes signals p.cells pins) next p
