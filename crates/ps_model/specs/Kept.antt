-- What a channel keeps of an instance between its steps, and what a step makes of it. Profile.
use Rattle.std.specs.Prelude.{◌≡◌, ◌≢◌, ℕ, ◌+◌, ◌-◌, Bool, false, ◌&&◌, ◌==◌, not, nat_le, if◌then◌else◌}
use Rattle.ps_model.specs.declared.kind.Kind.{Kind}
use Rattle.ps_model.specs.Table.{Conditions, row_at}
use Rattle.ps_model.specs.Blocks.{Block_state, block, next, latched, at_pin, modes_on, exactly_on}

-- A block state with one number, the timer, in the place of its age.
pub record Kept : Type 0 where
  pub code : ℕ
  pub last_reset : Bool
  pub last_auxiliary : Bool
  pub mode : ℕ
  pub timer : ℕ

-- what is kept before the first step: Idle, with everything else FALSE or 0
abbrev pub fresh : Kept
fresh = record { code = 0; last_reset = false; last_auxiliary = false; mode = 0; timer = 0 }

-- Channels A and C: at time t the timer is the time at which the state was entered or restarted.
abbrev pub Since : ℕ → ℕ → ℕ → Type 0
Since t timer age = timer + age ≡ t

-- Channel B: the timer is the time that remains of the limit.
abbrev pub Remains : ℕ → ℕ → ℕ → Type 0
Remains limit timer age = timer ≡ limit - age

-- What is kept stands for a block state, where the timer says its age. Nothing reads an age of Idle.
pub record StandsBy (Says : ℕ → ℕ → Type 0) (k : Kept) (b : Block_state) : Type 0 where
  pub code : k.code ≡ b.code
  pub last_reset : k.last_reset ≡ b.last_reset
  pub last_auxiliary : k.last_auxiliary ≡ b.last_auxiliary
  pub mode : k.mode ≡ b.mode
  pub timer : b.code ≢ 0 → Says k.timer b.age

-- The conditions of a step, as those of a block state: only `elapsed` reads a time.
abbrev pub seen : Kind → (ℕ → Bool) → Bool → Kept → Conditions
seen kind pins elapsed k = record {
  pin = pins;
  edge = at_pin (block kind).reset pins && not k.last_reset;
  static = at_pin (block kind).reset pins && k.last_reset;
  rise = at_pin (block kind).auxiliary pins && not k.last_auxiliary;
  elapsed = elapsed;
  modes = modes_on pins;
  exact = exactly_on pins k.mode;
}

-- The state stays, and its restart condition does not hold.
abbrev pub runs_on : Kind → ℕ → ℕ → Conditions → Bool
runs_on kind q q' c = q' == q && not ((row_at (block kind).rows q').restart c)

-- What is kept after a step: the timer runs on where the state does, and else begins anew.
abbrev pub stepped : Kind → (ℕ → Bool) → Bool → (anew running : ℕ) → Kept → Kept
stepped kind pins elapsed anew running k =
    let c = seen kind pins elapsed k in
    let q = next kind k.code c in
    record {
      code = q;
      last_reset = at_pin (block kind).reset pins;
      last_auxiliary = at_pin (block kind).auxiliary pins;
      mode = latched kind pins k.code q k.mode;
      timer = if runs_on kind k.code q c then running else anew;
    }

-- A step at a time, as channels A and C keep instances: the age is the time less the timer, or 0 where the timer is
-- later.
abbrev pub stepped_at : Kind → (limit : ℕ) → (ℕ → Bool) → (now : ℕ) → Kept → Kept
stepped_at kind limit pins now k = stepped kind pins (nat_le limit (now - k.timer)) now k.timer k

-- A step after a time passed, as channel B keeps instances: the limit has elapsed where nothing remains.
abbrev pub counted_down : Kind → (limit : ℕ) → (ℕ → Bool) → (passed : ℕ) → Kept → Kept
counted_down kind limit pins passed k = stepped kind pins (k.timer - passed == 0) limit (k.timer - passed) k

-- The block state for which it stands at a time, as channels A and C keep it.
abbrev pub aged : (now : ℕ) → Kept → Block_state
aged now k = record { code = k.code; age = now - k.timer; last_reset = k.last_reset; last_auxiliary = k.last_auxiliary; mode = k.mode }

-- What channel B keeps at time t, made from what A or C keeps.
abbrev pub healed : (limit t : ℕ) → Kept → Kept
healed limit t k = record {
  code = k.code;
  last_reset = k.last_reset;
  last_auxiliary = k.last_auxiliary;
  mode = k.mode;
  timer = if k.code == 0 then 0 else limit - (t - k.timer);
}
