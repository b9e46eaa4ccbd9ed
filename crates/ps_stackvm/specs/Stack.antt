-- What the instructions on the stack leave of the cells (profile). `next` is where the following instruction stands.
-- The traps of each are tried in the order in which they are written.
use Rattle.std.specs.Prelude.{ℕ, ◌+◌, ◌-◌, ◌==◌, ◌||◌, nat_lt, nat_le, if◌then◌else◌, List, slice_set}
use Rattle.ps_machine.specs.Bytes.{is_no_bit}
use Rattle.ps_stackvm.specs.declared.trap.Trap.TheVariants.{StackHeight, NotBoolean, NoSignal}
use Rattle.ps_stackvm.specs.declared.layout.TheConstants.{STACK_AT, STACK_SIZE, SIGNALS_AT}
use Rattle.ps_stackvm.specs.Cells.{height_of, stack_byte, signal_byte, with_pc, with_height, with_progress, trapped}

-- one more byte on the stack
abbrev pub pushed : ℕ → List ℕ → List ℕ
pushed byte cells = with_height (height_of cells + 1) (slice_set cells (STACK_AT + height_of cells) byte)

-- the topmost byte
abbrev pub top : List ℕ → ℕ
top cells = stack_byte cells (height_of cells - 1)

-- the byte below it
abbrev pub second : List ℕ → ℕ
second cells = stack_byte cells (height_of cells - 2)

-- LOAD pushes the byte of a signal.
abbrev pub after_load : (signals c next : ℕ) → List ℕ → List ℕ
after_load signals c next cells =
    if nat_le signals c then trapped NoSignal cells
    else (if nat_le STACK_SIZE (height_of cells) then trapped StackHeight cells
    else (if is_no_bit (signal_byte cells c) then trapped NotBoolean cells
    else with_pc next (pushed (signal_byte cells c) cells)))

-- STORE pops a byte into the byte of a signal.
abbrev pub after_store : (signals c next : ℕ) → List ℕ → List ℕ
after_store signals c next cells =
    if nat_le signals c then trapped NoSignal cells
    else (if (height_of cells == 0) || nat_lt STACK_SIZE (height_of cells) then trapped StackHeight cells
    else (if is_no_bit (top cells) then trapped NotBoolean cells
    else with_pc next (slice_set (with_height (height_of cells - 1) cells) (SIGNALS_AT + c) (top cells))))

-- CONST pushes a byte.
abbrev pub after_const : (byte next : ℕ) → List ℕ → List ℕ
after_const byte next cells =
    if nat_le STACK_SIZE (height_of cells) then trapped StackHeight cells
    else (if is_no_bit byte then trapped NotBoolean cells
    else with_pc next (pushed byte cells))

-- AND and OR pop two bytes and push what they join to.
abbrev pub after_join : (ℕ → ℕ → ℕ) → (next : ℕ) → List ℕ → List ℕ
after_join join next cells =
    if nat_lt (height_of cells) 2 || nat_lt STACK_SIZE (height_of cells) then trapped StackHeight cells
    else (if is_no_bit (top cells) || is_no_bit (second cells) then trapped NotBoolean cells
    else with_pc next (with_height (height_of cells - 1) (slice_set cells (STACK_AT + (height_of cells - 2)) (join (second cells) (top cells)))))

-- END ends the scan.
abbrev pub after_end : (next : ℕ) → List ℕ → List ℕ
after_end next cells = with_pc next (with_progress 1 cells)
