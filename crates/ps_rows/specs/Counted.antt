-- What a step by rows leaves.
use Rattle.std.specs.Prelude.{ℕ, ◌^◌, Bool, ◌==◌, bit_and, if◌then◌else◌, Option, Some, None}
use Rattle.std.specs.List.{range_with_len, list_any}
use Rattle.ps_model.specs.declared.kind.Kind.{Kind}
use Rattle.ps_model.specs.declared.kind.Kind.TheVariants.{ModeSelector}
use Rattle.ps_model.specs.Blocks.{lowest_on, mode_states}
use Rattle.ps_model.specs.Kept.{Kept}
use Rattle.ps_rows.specs.declared.step.CountedBlock.{CountedBlock}

-- The timer is the time that remains.
abbrev pub kept_of : CountedBlock → Kept
kept_of b = record { code = b.code; last_reset = b.last_reset; last_auxiliary = b.last_auxiliary; mode = b.mode; timer = b.remains }

-- the bit of a pin among the pins as bits, and 0 for a pin that a kind lacks
abbrev pub bit_of : Option ℕ → ℕ
bit_of None = 0
bit_of (Some j) = 2 ^ j

-- The mode after a step with this action to state q: that of SF_ModeSelector is latched, kept in 8000 and 8004, and 0
-- elsewhere; that of other kinds is 0.
abbrev pub mode_after : Kind → (action q : ℕ) → (ℕ → Bool) → (mode : ℕ) → ℕ
mode_after ModeSelector action q pins mode =
    if bit_and action 2 == 2 then lowest_on (range_with_len 0 8) pins else if list_any (λ x. x == q) mode_states then mode else 0
mode_after _ action q pins mode = 0
