-- What DECIDE, SET and END leave of the cells (profile). The traps of each are tried in the order in which they are
-- written.
use Rattle.std.specs.Prelude.{ℕ, ◌==◌, if◌then◌else◌, List, slice_index, slice_set, Option, Some, None}
use Rattle.ps_machine.specs.Bytes.{is_no_bit}
use Rattle.ps_stackvm.specs.declared.trap.Trap.TheVariants.{NotBoolean, NoSignal}
use Rattle.ps_decision.specs.Cells.{place_of, with_offset, with_progress, trapped}

-- The byte at a place of the cells, where there is one, decides where to go on.
abbrev pub decided_at : Option ℕ → (yes_at no_at : ℕ) → List ℕ → List ℕ
decided_at None yes_at no_at cells = trapped NoSignal cells
decided_at (Some place) yes_at no_at cells =
    if is_no_bit (slice_index cells place) then trapped NotBoolean cells
    else with_offset (if slice_index cells place == 1 then yes_at else no_at) cells

-- DECIDE goes on at the place yes_at where the operand's byte is 1, and at the place no_at where it is 0.
abbrev pub after_decide : (signals operand yes_at no_at : ℕ) → List ℕ → List ℕ
after_decide signals operand yes_at no_at cells = decided_at (place_of signals operand) yes_at no_at cells

-- A byte is written at a place of the cells, where there is one.
abbrev pub set_at : Option ℕ → (byte next : ℕ) → List ℕ → List ℕ
set_at None byte next cells = trapped NoSignal cells
set_at (Some place) byte next cells =
    if is_no_bit byte then trapped NotBoolean cells
    else with_offset next (slice_set cells place byte)

-- SET writes a byte to the target and goes on at the place next.
abbrev pub after_set : (signals target byte next : ℕ) → List ℕ → List ℕ
after_set signals target byte next cells = set_at (place_of signals target) byte next cells

-- END ends the scan, and changes the progress alone.
abbrev pub after_end : List ℕ → List ℕ
after_end cells = with_progress 1 cells
