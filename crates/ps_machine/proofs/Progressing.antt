-- What a progress byte says of a scan that goes on, and of one that does not; and a walk of turns that goes on.
use Rattle.std.proofs.Common.{◌≡◌, ◌≢◌, ℕ, ◌+◌, ◌<◌, false, ap, ◌∙◌, inl, inr, arith}
use Rattle.std.specs.Prelude.{◌==◌, ◌-◌, nat_lt, if◌then◌else◌}
use Rattle.std.proofs.lemmas.Bool.{cases_Bool, cases_lt, cond-true, cond-false, ne_eqb}
use Rattle.ps_model.specs.declared.channel.Progress.{Progress}
use Rattle.ps_model.specs.declared.channel.Progress.TheVariants.{Running, Done, Trapped}
use Rattle.ps_machine.specs.Machines.{turned}
use Rattle.ps_machine.specs.Progressing.{progress_said, is_running}

-- a progress byte of 0 says Running
pub zero_runs : (byte : ℕ) → byte ≡ 0 → progress_said byte ≡ Running
zero_runs byte h = ap progress_said h

-- and no other byte does
pub other_ends : (byte : ℕ) → byte ≢ 0 → is_running (progress_said byte) ≡ false
other_ends byte h =
    let late : Progress = if nat_lt byte 9 then Trapped (byte - 1) else Trapped 0 in
    let late_ends : is_running late ≡ false = elim (cases_Bool (nat_lt byte 9)) [
      | inl low ↦ ap is_running (cond-true (nat_lt byte 9) (Trapped (byte - 1)) (Trapped 0) low)
      | inr high ↦ ap is_running (cond-false (nat_lt byte 9) (Trapped (byte - 1)) (Trapped 0) high)
    ] in
    let past : Progress = if byte == 1 then Done else late in
    let past_ends : is_running past ≡ false = elim (cases_Bool (byte == 1)) [
      | inl one ↦ ap is_running (cond-true (byte == 1) Done late one)
      | inr other ↦ ap is_running (cond-false (byte == 1) Done late other) ∙ late_ends
    ] in
    ap is_running (cond-false (byte == 0) Running past (ne_eqb byte 0 h)) ∙ past_ends

-- where the progress byte was 0 before each of k turns and is 0 after them, it was 0 before each of k + 1
pub running_next : {X : Type 0} (f : X → X) (progress : X → ℕ) (x : X) (k : ℕ) → ((j : ℕ) → j < k → progress (turned f j x) ≡ 0) → progress (turned f k x) ≡ 0 →
    (j : ℕ) → j < k + 1 → progress (turned f j x) ≡ 0
running_next f progress x k before here j low =
    elim (cases_lt j k) [
      | inl less ↦ before j less
      | inr more ↦ let same : j ≡ k = omega arith in ap (λ i. progress (turned f i x)) same ∙ here
    ]
