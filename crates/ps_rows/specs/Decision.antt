-- What the rows decide: the next state of a block's table, with what becomes of the timer and the mode.
use Rattle.std.specs.Prelude.{◌≡◌, ℕ, ◌+◌, ◌*◌, Bool, false, ◌&&◌, ◌==◌, not, if◌then◌else◌, Option, Some, None}
use Rattle.std.specs.List.{list_any}
use Rattle.ps_model.specs.declared.kind.Kind.{Kind}
use Rattle.ps_model.specs.declared.kind.Kind.TheVariants.{ModeSelector}
use Rattle.ps_model.specs.Table.{Conditions}
use Rattle.ps_model.specs.Blocks.{next, mode_states}
use Rattle.ps_model.specs.Kept.{Kept, seen, runs_on}
use Rattle.ps_model.specs.Stored.{bit, is_state}
use Rattle.ps_rows.specs.Fitting.{first_fit}
use Rattle.ps_rows.specs.Rows.{rows_of}
use Rattle.ps_rows.specs.Names.{names, complemented}

-- A mode is latched on the way from 8005 of SF_ModeSelector to a state that keeps it.
abbrev pub latches : Kind → ℕ → ℕ → Bool
latches ModeSelector q q' = q == 0x8005 && list_any (λ x. x == q') mode_states
latches _ q q' = false

-- Bit 0: the timer begins anew, since the state is entered or its restart condition holds. Bit 1: the mode is latched.
abbrev pub action : Kind → ℕ → ℕ → Conditions → ℕ
action kind q q' c = bit (not (runs_on kind q q' c)) + 2 * bit (latches kind q q')

-- The next state with its action, and None exactly where q is no state of the kind.
abbrev pub decision : Kind → ℕ → Conditions → Option (ℕ × ℕ)
decision kind q c = if is_state kind q then Some (next kind q c, action kind q (next kind q c) c) else None

-- The rows of a kind, over the named conditions of any step, decide as its table does.
abbrev pub RowsDecide : Kind → Type 0
RowsDecide kind = (q : ℕ) (pins : ℕ → Bool) (elapsed : Bool) (k : Kept) →
    first_fit (rows_of kind) q (complemented (names kind pins elapsed k)) ≡ decision kind q (seen kind pins elapsed k)
