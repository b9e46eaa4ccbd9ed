-- What a step of SF_GuardMonitoring keeps and shows.
use Rattle.std.proofs.Common.{◌≡◌, ℕ, ◌-◌, ◌<◌, ◌^◌, true, false, refl, sym, ap, ◌∙◌, lit<}
use Rattle.std.specs.Prelude.{◌&&◌, not, nat_le, if◌then◌else◌}
use denote.Enum.Bare.{sameb}
use mir.Val.{bool_byte}
use Rattle.ps_model.specs.Table.{Conditions, row_at}
use Rattle.ps_model.specs.Blocks.{block, next, outs, latched}
use Rattle.ps_model.specs.Kept.{stepped_at, runs_on}
use Rattle.ps_model.specs.PinBits.{pin_of}
use Rattle.ps_model.specs.declared.kind.Kind.TheVariants.{GuardMonitoring}
use Rattle.ps_block.specs.declared.seen.Seen.{Seen}
use Rattle.ps_block.specs.Seeing.{conditions_of, with_reset, seen_at}
use Rattle.ps_block.specs.Shown.{Shows, shown, shown_in}
use Rattle.ps_guards.specs.contracts.guard_monitoring.Phase.{the_type}
use Rattle.ps_guards.specs.declared.guard_monitoring.Phase.{Phase}
use Rattle.ps_guards.specs.declared.guard_monitoring.Phase.TheVariants.{Idle, Init, OpenGuardRequest, GuardOpened, WaitForSwitch2, WaitForSwitch1, GuardClosed, WaitForReset, Enabled, ResetError, DiscrepancyError1, DiscrepancyError2}
use Rattle.ps_guards.specs.declared.guard_monitoring.GuardMonitoringState.{GuardMonitoringState}
use Rattle.ps_guards.specs.GuardMonitoringStates.{code_of, kept_of}
use Rattle.ps_guards.proofs.SameGuardMonitoringStates.{same_phase}
use Rattle.ps_block.proofs.SameCodes.{same_code, not_not}

-- the safe outputs of each state
abbrev pub safe_of : Phase → ℕ
safe_of p = bool_byte (sameb the_type p Enabled)

-- the outputs are those of the state
outputs : (p : Phase) → shown 1 (shown_in (code_of p) (safe_of p)) ≡ outs GuardMonitoring (code_of p) 0
unfolding outs block
outputs Idle = refl
outputs Init = refl
outputs OpenGuardRequest = refl
outputs GuardOpened = refl
outputs WaitForSwitch2 = refl
outputs WaitForSwitch1 = refl
outputs GuardClosed = refl
outputs WaitForReset = refl
outputs Enabled = refl
outputs ResetError = refl
outputs DiscrepancyError1 = refl
outputs DiscrepancyError2 = refl

-- no further bit is set
few : (p : Phase) → safe_of p < 2 ^ 1
few Idle = lit< tt
few Init = lit< tt
few OpenGuardRequest = lit< tt
few GuardOpened = lit< tt
few WaitForSwitch2 = lit< tt
few WaitForSwitch1 = lit< tt
few GuardClosed = lit< tt
few WaitForReset = lit< tt
few Enabled = lit< tt
few ResetError = lit< tt
few DiscrepancyError1 = lit< tt
few DiscrepancyError2 = lit< tt

-- a step shows its new state
pub guard_monitoring_shows : (s : GuardMonitoringState) → Shows GuardMonitoring (shown_in (code_of s.phase) (safe_of s.phase)) (kept_of s)
unfolding block
guard_monitoring_shows s = record { outputs = outputs s.phase; no_more = few s.phase; code = refl }

-- the time of no state restarts
restarts : (p : Phase) (c : Conditions) → (row_at (block GuardMonitoring).rows (code_of p)).restart c ≡ false
unfolding block
restarts Idle c = refl
restarts Init c = refl
restarts OpenGuardRequest c = refl
restarts GuardOpened c = refl
restarts WaitForSwitch2 c = refl
restarts WaitForSwitch1 c = refl
restarts GuardClosed c = refl
restarts WaitForReset c = refl
restarts Enabled c = refl
restarts ResetError c = refl
restarts DiscrepancyError1 c = refl
restarts DiscrepancyError2 c = refl

-- a step keeps what the table makes of the old state
pub guard_monitoring_moves : (old : GuardMonitoringState) (bits limit now : ℕ) (seen : Seen) (s : GuardMonitoringState) →
    seen ≡ with_reset (seen_at bits (nat_le limit (now - old.since))) 5 old.last_reset →
    code_of s.phase ≡ next GuardMonitoring (code_of old.phase) (conditions_of seen 0) → s.last_reset ≡ pin_of seen.bits 5 →
    s.since ≡ (if not (not (sameb the_type s.phase old.phase)) && true then old.since else now) →
    kept_of s ≡ stepped_at GuardMonitoring limit (pin_of bits) now (kept_of old)
unfolding block latched
guard_monitoring_moves old bits limit now seen s sees code reset since =
    let c = conditions_of (with_reset (seen_at bits (nat_le limit (now - old.since))) 5 old.last_reset) 0 in
    let to = code ∙ ap (λ x. next GuardMonitoring (code_of old.phase) (conditions_of x 0)) sees in
    let last = reset ∙ ap (λ x. pin_of x.bits 5) sees in
    let same = same_code the_type tt code_of same_phase s.phase old.phase in
    let timer : s.since ≡ (if runs_on GuardMonitoring (code_of old.phase) (code_of s.phase) c then old.since else now) =
    since ∙ (λ i. if not_not (sameb the_type s.phase old.phase) i && true then old.since else now)
    ∙ sym (λ i. if same i && not (restarts s.phase c i) then old.since else now) in
    let renewed = timer ∙ ap (λ x. if runs_on GuardMonitoring (code_of old.phase) x c then old.since else now) to in
    λ i. record { code = to i; last_reset = last i; last_auxiliary = false; mode = 0; timer = renewed i }
