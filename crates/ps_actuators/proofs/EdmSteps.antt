-- What a step of SF_EDM keeps and shows.
use Rattle.std.proofs.Common.{◌≡◌, ℕ, ◌-◌, ◌<◌, ◌^◌, Bool, true, false, refl, sym, ap, ◌∙◌, lit<}
use Rattle.std.specs.Prelude.{◌&&◌, not, nat_le, if◌then◌else◌}
use denote.Enum.Bare.{sameb}
use mir.Val.{bool_byte}
use Rattle.ps_model.specs.Table.{Conditions, row_at}
use Rattle.ps_model.specs.Blocks.{block, next, outs, latched}
use Rattle.ps_model.specs.Kept.{stepped_at, runs_on}
use Rattle.ps_model.specs.PinBits.{pin_of}
use Rattle.ps_model.specs.declared.kind.Kind.TheVariants.{Edm}
use Rattle.ps_block.specs.declared.seen.Seen.{Seen}
use Rattle.ps_block.specs.Seeing.{conditions_of, with_reset, seen_at}
use Rattle.ps_block.specs.Shown.{Shows, shown, shown_in}
use Rattle.ps_actuators.specs.contracts.monitoring.Phase.{the_type}
use Rattle.ps_actuators.specs.declared.monitoring.Phase.{Phase}
use Rattle.ps_actuators.specs.declared.monitoring.Phase.TheVariants.{Idle, Init, OutputDisabled, Enabled, ResetError, EdmError11, ResetError11, EdmError12, ResetError12, EdmError13, ResetError13, EdmError21, ResetError21, EdmError22, ResetError22, EdmError23, ResetError23, EdmError31, ResetError31, EdmError32, ResetError32, EdmError33, ResetError33}
use Rattle.ps_actuators.specs.declared.monitoring.EdmState.{EdmState}
use Rattle.ps_actuators.specs.EdmStates.{code_of, kept_of}
use Rattle.ps_actuators.proofs.SameEdmStates.{same_phase}
use Rattle.ps_block.proofs.SameCodes.{same_code, not_not}

-- the outputs are those of the state
outputs : (p : Phase) → shown 1 (shown_in (code_of p) (bool_byte (sameb the_type p Enabled))) ≡ outs Edm (code_of p) 0
unfolding outs block
outputs Idle = refl
outputs Init = refl
outputs OutputDisabled = refl
outputs Enabled = refl
outputs ResetError = refl
outputs EdmError11 = refl
outputs ResetError11 = refl
outputs EdmError12 = refl
outputs ResetError12 = refl
outputs EdmError13 = refl
outputs ResetError13 = refl
outputs EdmError21 = refl
outputs ResetError21 = refl
outputs EdmError22 = refl
outputs ResetError22 = refl
outputs EdmError23 = refl
outputs ResetError23 = refl
outputs EdmError31 = refl
outputs ResetError31 = refl
outputs EdmError32 = refl
outputs ResetError32 = refl
outputs EdmError33 = refl
outputs ResetError33 = refl

-- no further bit is set
few : (b : Bool) → bool_byte b < 2 ^ 1
few true = lit< tt
few false = lit< tt

-- a step shows its new state
pub edm_shows : (s : EdmState) → Shows Edm (shown_in (code_of s.phase) (bool_byte (sameb the_type s.phase Enabled))) (kept_of s)
unfolding block
edm_shows s = record { outputs = outputs s.phase; no_more = few (sameb the_type s.phase Enabled); code = refl }

-- the time of a state restarts where both feedbacks are TRUE while the output is disabled
restarts : (p : Phase) (c : Conditions) → (row_at (block Edm).rows (code_of p)).restart c ≡ (sameb the_type p OutputDisabled && c.pin 2 && c.pin 3)
unfolding block
restarts Idle c = refl
restarts Init c = refl
restarts OutputDisabled c = refl
restarts Enabled c = refl
restarts ResetError c = refl
restarts EdmError11 c = refl
restarts ResetError11 c = refl
restarts EdmError12 c = refl
restarts ResetError12 c = refl
restarts EdmError13 c = refl
restarts ResetError13 c = refl
restarts EdmError21 c = refl
restarts ResetError21 c = refl
restarts EdmError22 c = refl
restarts ResetError22 c = refl
restarts EdmError23 c = refl
restarts ResetError23 c = refl
restarts EdmError31 c = refl
restarts ResetError31 c = refl
restarts EdmError32 c = refl
restarts ResetError32 c = refl
restarts EdmError33 c = refl
restarts ResetError33 c = refl

-- a step keeps what the table makes of the old state
pub edm_moves : (old : EdmState) (bits limit now : ℕ) (seen : Seen) (s : EdmState) →
    seen ≡ with_reset (seen_at bits (nat_le limit (now - old.since))) 5 old.last_reset →
    code_of s.phase ≡ next Edm (code_of old.phase) (conditions_of seen 0) → s.last_reset ≡ pin_of seen.bits 5 →
    s.since ≡ (if not (not (sameb the_type s.phase old.phase)) && not (sameb the_type s.phase OutputDisabled && pin_of seen.bits 2 && pin_of seen.bits 3) then old.since else now) →
    kept_of s ≡ stepped_at Edm limit (pin_of bits) now (kept_of old)
unfolding block latched
edm_moves old bits limit now seen s sees code reset since =
    let c = conditions_of (with_reset (seen_at bits (nat_le limit (now - old.since))) 5 old.last_reset) 0 in
    let to = code ∙ ap (λ x. next Edm (code_of old.phase) (conditions_of x 0)) sees in
    let last = reset ∙ ap (λ x. pin_of x.bits 5) sees in
    let same = same_code the_type tt code_of same_phase s.phase old.phase in
    let timer : s.since ≡ (if runs_on Edm (code_of old.phase) (code_of s.phase) c then old.since else now) =
    since ∙ (λ i. if not_not (sameb the_type s.phase old.phase) i && not (sameb the_type s.phase OutputDisabled && pin_of (sees i).bits 2 && pin_of (sees i).bits 3) then old.since else now)
    ∙ sym (λ i. if same i && not (restarts s.phase c i) then old.since else now) in
    let renewed = timer ∙ ap (λ x. if runs_on Edm (code_of old.phase) x c then old.since else now) to in
    λ i. record { code = to i; last_reset = last i; last_auxiliary = false; mode = 0; timer = renewed i }
