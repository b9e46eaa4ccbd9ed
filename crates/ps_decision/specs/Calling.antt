-- What CALL leaves of the cells: one step of an instance (profile). `first` is the instance's first output signal, and
-- `next` is where the following row stands. The traps are tried in the order in which they are written.
use Rattle.std.specs.Prelude.{ℕ, ◌+◌, ◌*◌, nat_lt, nat_le, if◌then◌else◌, List, map, Option, Some, None}
use Rattle.std.specs.List.{list_any}
use Rattle.ps_model.specs.declared.kind.Kind.{Kind}
use Rattle.ps_model.specs.Blocks.{output_count, outs}
use Rattle.ps_model.specs.Budgets.{boolean_count}
use Rattle.ps_model.specs.Kept.{Kept, stepped_at}
use Rattle.ps_model.specs.Stored.{stored, loaded}
use Rattle.ps_machine.specs.Bytes.{bit, is_no_bit, replaced}
use Rattle.ps_machine.specs.Kinds.{kind_of}
use Rattle.ps_stackvm.specs.declared.trap.Trap.TheVariants.{NotBoolean, NoSignal, NoInstance, NoState}
use Rattle.ps_stackvm.specs.Calling.{pins_in}
use Rattle.ps_decision.specs.declared.layout.TheConstants.{SIGNALS_AT, INSTANCE_SIZE}
use Rattle.ps_decision.specs.Cells.{scan_time, pin_bytes, block_bytes, with_offset, trapped}

-- the new state of the instance and its outputs take their places
abbrev pub stepped_to : (signals instance first next : ℕ) → Kind → Kept → List ℕ → List ℕ
stepped_to signals instance first next kind kept cells =
    let with_state = replaced cells (SIGNALS_AT + signals + INSTANCE_SIZE * instance) (stored kept) in
    with_offset next (replaced with_state (SIGNALS_AT + first) (map bit (outs kind kept.code kept.mode)))

-- a step of what the instance's bytes keep, at the time of the scan, where pin j is TRUE if pin cell j is 1
abbrev pub called_with : (signals instance first limit next : ℕ) → Kind → Option Kept → List ℕ → List ℕ
called_with signals instance first limit next kind None cells = trapped NoState cells
called_with signals instance first limit next kind (Some kept) cells =
    let pins = pins_in (pin_bytes (boolean_count kind) cells) in
    stepped_to signals instance first next kind (stepped_at kind limit pins (scan_time cells) kept) cells

-- a call of an instance as a kind
abbrev pub called_as : (signals instance first limit next : ℕ) → Kind → List ℕ → List ℕ
called_as signals instance first limit next kind cells =
    if nat_lt signals (first + output_count kind) then trapped NoSignal cells
    else (if list_any is_no_bit (pin_bytes (boolean_count kind) cells) then trapped NotBoolean cells
    else called_with signals instance first limit next kind (loaded kind (block_bytes signals instance cells)) cells)

-- the same where the number is that of a kind
abbrev pub called_by : (signals instance first limit next : ℕ) → Option Kind → List ℕ → List ℕ
called_by signals instance first limit next None cells = trapped NoInstance cells
called_by signals instance first limit next (Some kind) cells = called_as signals instance first limit next kind cells

-- CALL steps an instance.
abbrev pub after_call : (signals instances instance kind first limit next : ℕ) → List ℕ → List ℕ
after_call signals instances instance kind first limit next cells =
    if nat_le instances instance then trapped NoInstance cells
    else called_by signals instance first limit next (kind_of kind) cells
