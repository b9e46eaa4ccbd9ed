-- What a step of SF_GuardLocking keeps and shows.
use Rattle.std.proofs.Common.{◌≡◌, ℕ, ◌+◌, ◌-◌, ◌*◌, ◌<◌, ◌^◌, true, false, refl, sym, ap, ◌∙◌, lit<}
use Rattle.std.specs.Prelude.{◌&&◌, ◌||◌, not, nat_le, if◌then◌else◌}
use denote.Enum.Bare.{sameb}
use mir.Val.{bool_byte}
use Rattle.ps_model.specs.Table.{Conditions, row_at}
use Rattle.ps_model.specs.Blocks.{block, next, outs, latched}
use Rattle.ps_model.specs.Kept.{stepped_at, runs_on}
use Rattle.ps_model.specs.PinBits.{pin_of}
use Rattle.ps_model.specs.declared.kind.Kind.TheVariants.{GuardLocking}
use Rattle.ps_block.specs.declared.seen.Seen.{Seen}
use Rattle.ps_block.specs.Seeing.{conditions_of, with_reset, seen_at}
use Rattle.ps_block.specs.Shown.{Shows, shown, shown_in}
use Rattle.ps_guards.specs.contracts.guard_locking.Phase.{the_type}
use Rattle.ps_guards.specs.declared.guard_locking.Phase.{Phase}
use Rattle.ps_guards.specs.declared.guard_locking.Phase.TheVariants.{Idle, Init, Locked, WaitForReset, ClosedUnlocked, OpenUnlocked, WaitForOperator, SafetyReturn, ResetError1, ResetError2, ResetError3, SafetyLost}
use Rattle.ps_guards.specs.declared.guard_locking.GuardLockingState.{GuardLockingState}
use Rattle.ps_guards.specs.GuardLockingStates.{code_of, kept_of}
use Rattle.ps_guards.proofs.SameGuardLockingStates.{same_phase}
use Rattle.ps_block.proofs.SameCodes.{same_code, not_not}

-- the safe outputs of each state
abbrev pub safe_of : Phase → ℕ
safe_of p = bool_byte (sameb the_type p Locked) + 2 * bool_byte (sameb the_type p OpenUnlocked || sameb the_type p ClosedUnlocked)

-- the outputs are those of the state
outputs : (p : Phase) → shown 2 (shown_in (code_of p) (safe_of p)) ≡ outs GuardLocking (code_of p) 0
unfolding outs block
outputs Idle = refl
outputs Init = refl
outputs Locked = refl
outputs WaitForReset = refl
outputs ClosedUnlocked = refl
outputs OpenUnlocked = refl
outputs WaitForOperator = refl
outputs SafetyReturn = refl
outputs ResetError1 = refl
outputs ResetError2 = refl
outputs ResetError3 = refl
outputs SafetyLost = refl

-- no further bit is set
few : (p : Phase) → safe_of p < 2 ^ 2
few Idle = lit< tt
few Init = lit< tt
few Locked = lit< tt
few WaitForReset = lit< tt
few ClosedUnlocked = lit< tt
few OpenUnlocked = lit< tt
few WaitForOperator = lit< tt
few SafetyReturn = lit< tt
few ResetError1 = lit< tt
few ResetError2 = lit< tt
few ResetError3 = lit< tt
few SafetyLost = lit< tt

-- a step shows its new state
pub guard_locking_shows : (s : GuardLockingState) → Shows GuardLocking (shown_in (code_of s.phase) (safe_of s.phase)) (kept_of s)
unfolding block
guard_locking_shows s = record { outputs = outputs s.phase; no_more = few s.phase; code = refl }

-- the time of no state restarts
restarts : (p : Phase) (c : Conditions) → (row_at (block GuardLocking).rows (code_of p)).restart c ≡ false
unfolding block
restarts Idle c = refl
restarts Init c = refl
restarts Locked c = refl
restarts WaitForReset c = refl
restarts ClosedUnlocked c = refl
restarts OpenUnlocked c = refl
restarts WaitForOperator c = refl
restarts SafetyReturn c = refl
restarts ResetError1 c = refl
restarts ResetError2 c = refl
restarts ResetError3 c = refl
restarts SafetyLost c = refl

-- a step keeps what the table makes of the old state
pub guard_locking_moves : (old : GuardLockingState) (bits limit now : ℕ) (seen : Seen) (s : GuardLockingState) →
    seen ≡ with_reset (seen_at bits (nat_le limit (now - old.since))) 7 old.last_reset →
    code_of s.phase ≡ next GuardLocking (code_of old.phase) (conditions_of seen 0) → s.last_reset ≡ pin_of seen.bits 7 →
    s.since ≡ (if not (not (sameb the_type s.phase old.phase)) && true then old.since else now) →
    kept_of s ≡ stepped_at GuardLocking limit (pin_of bits) now (kept_of old)
unfolding block latched
guard_locking_moves old bits limit now seen s sees code reset since =
    let c = conditions_of (with_reset (seen_at bits (nat_le limit (now - old.since))) 7 old.last_reset) 0 in
    let to = code ∙ ap (λ x. next GuardLocking (code_of old.phase) (conditions_of x 0)) sees in
    let last = reset ∙ ap (λ x. pin_of x.bits 7) sees in
    let same = same_code the_type tt code_of same_phase s.phase old.phase in
    let timer : s.since ≡ (if runs_on GuardLocking (code_of old.phase) (code_of s.phase) c then old.since else now) =
    since ∙ (λ i. if not_not (sameb the_type s.phase old.phase) i && true then old.since else now)
    ∙ sym (λ i. if same i && not (restarts s.phase c i) then old.since else now) in
    let renewed = timer ∙ ap (λ x. if runs_on GuardLocking (code_of old.phase) x c then old.since else now) to in
    λ i. record { code = to i; last_reset = last i; last_auxiliary = false; mode = 0; timer = renewed i }
