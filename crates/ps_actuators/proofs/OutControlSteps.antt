-- What a step of SF_OutControl keeps and shows.
use Rattle.std.proofs.Common.{◌≡◌, ℕ, ◌-◌, ◌<◌, ◌^◌, true, false, refl, sym, ap, ◌∙◌, lit<}
use Rattle.std.specs.Prelude.{◌&&◌, not, nat_le, if◌then◌else◌}
use denote.Enum.Bare.{sameb}
use mir.Val.{bool_byte}
use Rattle.ps_model.specs.Table.{Conditions, row_at}
use Rattle.ps_model.specs.Blocks.{block, next, outs, latched}
use Rattle.ps_model.specs.Kept.{stepped_at, runs_on}
use Rattle.ps_model.specs.PinBits.{pin_of}
use Rattle.ps_model.specs.declared.kind.Kind.TheVariants.{OutControl}
use Rattle.ps_block.specs.declared.seen.Seen.{Seen}
use Rattle.ps_block.specs.Seeing.{conditions_of, with_reset, with_auxiliary, seen_at}
use Rattle.ps_block.specs.Shown.{Shows, shown, shown_in}
use Rattle.ps_actuators.specs.contracts.out_control.Phase.{the_type}
use Rattle.ps_actuators.specs.declared.out_control.Phase.{Phase}
use Rattle.ps_actuators.specs.declared.out_control.Phase.TheVariants.{Idle, Init, WaitForSafeControl, WaitForReset, OutputDisabled, Enabled, ControlError, ResetError1, ResetError2}
use Rattle.ps_actuators.specs.declared.out_control.OutControlState.{OutControlState}
use Rattle.ps_actuators.specs.OutControlStates.{code_of, kept_of}
use Rattle.ps_actuators.proofs.SameOutControlStates.{same_phase}
use Rattle.ps_block.proofs.SameCodes.{same_code, not_not}

-- the safe outputs of each state
abbrev pub safe_of : Phase → ℕ
safe_of p = bool_byte (sameb the_type p Enabled)

-- the outputs are those of the state
outputs : (p : Phase) → shown 1 (shown_in (code_of p) (safe_of p)) ≡ outs OutControl (code_of p) 0
unfolding outs block
outputs Idle = refl
outputs Init = refl
outputs WaitForSafeControl = refl
outputs WaitForReset = refl
outputs OutputDisabled = refl
outputs Enabled = refl
outputs ControlError = refl
outputs ResetError1 = refl
outputs ResetError2 = refl

-- no further bit is set
few : (p : Phase) → safe_of p < 2 ^ 1
few Idle = lit< tt
few Init = lit< tt
few WaitForSafeControl = lit< tt
few WaitForReset = lit< tt
few OutputDisabled = lit< tt
few Enabled = lit< tt
few ControlError = lit< tt
few ResetError1 = lit< tt
few ResetError2 = lit< tt

-- a step shows its new state
pub out_control_shows : (s : OutControlState) → Shows OutControl (shown_in (code_of s.phase) (safe_of s.phase)) (kept_of s)
unfolding block
out_control_shows s = record { outputs = outputs s.phase; no_more = few s.phase; code = refl }

-- the time of no state restarts
restarts : (p : Phase) (c : Conditions) → (row_at (block OutControl).rows (code_of p)).restart c ≡ false
unfolding block
restarts Idle c = refl
restarts Init c = refl
restarts WaitForSafeControl c = refl
restarts WaitForReset c = refl
restarts OutputDisabled c = refl
restarts Enabled c = refl
restarts ControlError c = refl
restarts ResetError1 c = refl
restarts ResetError2 c = refl

-- a step keeps what the table makes of the old state
pub out_control_moves : (old : OutControlState) (bits limit now : ℕ) (seen : Seen) (s : OutControlState) →
    seen ≡ with_auxiliary (with_reset (seen_at bits (nat_le limit (now - old.since))) 6 old.last_reset) 2 old.last_process →
    code_of s.phase ≡ next OutControl (code_of old.phase) (conditions_of seen 0) → s.last_reset ≡ pin_of seen.bits 6 → s.last_process ≡ pin_of seen.bits 2 →
    s.since ≡ (if not (not (sameb the_type s.phase old.phase)) && true then old.since else now) →
    kept_of s ≡ stepped_at OutControl limit (pin_of bits) now (kept_of old)
unfolding block latched
out_control_moves old bits limit now seen s sees code reset auxiliary since =
    let c = conditions_of (with_auxiliary (with_reset (seen_at bits (nat_le limit (now - old.since))) 6 old.last_reset) 2 old.last_process) 0 in
    let to = code ∙ ap (λ x. next OutControl (code_of old.phase) (conditions_of x 0)) sees in
    let last = reset ∙ ap (λ x. pin_of x.bits 6) sees in
    let last_auxiliary = auxiliary ∙ ap (λ x. pin_of x.bits 2) sees in
    let same = same_code the_type tt code_of same_phase s.phase old.phase in
    let timer : s.since ≡ (if runs_on OutControl (code_of old.phase) (code_of s.phase) c then old.since else now) =
    since ∙ (λ i. if not_not (sameb the_type s.phase old.phase) i && true then old.since else now)
    ∙ sym (λ i. if same i && not (restarts s.phase c i) then old.since else now) in
    let renewed = timer ∙ ap (λ x. if runs_on OutControl (code_of old.phase) x c then old.since else now) to in
    λ i. record { code = to i; last_reset = last i; last_auxiliary = last_auxiliary i; mode = 0; timer = renewed i }
