-- The turns that a channel has left of its scan.
use Rattle.std.proofs.Common.{inl, inr, ◌≡◌, ℕ, zero, suc, ◌+◌, ◌<◌, ◌≤◌, true, false, List, refl, ap, ◌∙◌, arith}
use Rattle.std.specs.Prelude.{not, ◌||◌}
use Rattle.std.proofs.lemmas.Bool.{cases_lt, le-leb}
use Rattle.std.proofs.Math.Bool.{or-true}
use Rattle.ps_model.specs.declared.channel.Region.{Region}
use Rattle.ps_model.specs.declared.channel.Region.TheVariants.{Code, Cells}
use Rattle.ps_machine.specs.Machines.{Machine, turned}
use Rattle.ps_machine.specs.Progressing.{is_running}
use Rattle.ps_machine.specs.Channels.{Channel_state, after_turn, after_strike, ended}

-- a channel whose budget is spent has ended
pub spent : (m : Machine) (s : Channel_state) → m.budget ≤ s.turns → ended m s ≡ true
spent m s high = ap (λ b. not (is_running (m.progress s.cells)) || b) (le-leb m.budget s.turns high) ∙ or-true (not (is_running (m.progress s.cells)))

-- a channel that has not ended has turns left
pub turns_are_left : (m : Machine) (s : Channel_state) → ended m s ≡ false → s.turns < m.budget
turns_are_left m s more =
    elim (cases_lt s.turns m.budget) [
      | inl low ↦ low
      | inr high ↦
          let over : ended m s ≡ true = spent m s high in
          absurd cc
    ]

-- a strike is no turn
pub same_turns : (region : Region) (at : ℕ) (bytes : List ℕ) (s : Channel_state) → (after_strike region at bytes s).turns ≡ s.turns
same_turns Code at bytes s = refl
same_turns Cells at bytes s = refl

-- a channel has so many turns left
pub record HasLeft (m : Machine) (s : Channel_state) (k : ℕ) : Type 0 where
  pub each : (j : ℕ) → j < k → ended m (turned (after_turn m) j s) ≡ false
  pub over : ended m (turned (after_turn m) k s) ≡ true

pub one_less : (m : Machine) (s : Channel_state) (k : ℕ) → HasLeft m s (suc k) → HasLeft m (after_turn m s) k
one_less m s k h = record { each = λ j low. h.each (suc j) (omega arith); over = h.over }

pub goes : (m : Machine) (s : Channel_state) (k : ℕ) → HasLeft m s (suc k) → ended m s ≡ false
goes m s k h = h.each 0 (omega arith)

turns_of_turned : (m : Machine) (k : ℕ) (s : Channel_state) → (turned (after_turn m) k s).turns ≡ s.turns + k
turns_of_turned m zero s = omega arith
turns_of_turned m (suc k) s = turns_of_turned m k (after_turn m s) ∙ omega arith

-- the turns that a channel has left are within its budget
pub left_within : (m : Machine) (s : Channel_state) (k : ℕ) → s.turns ≤ m.budget → HasLeft m s k → s.turns + k ≤ m.budget
left_within m s zero few h = omega arith
left_within m s (suc j) few h =
    let low = turns_are_left m (turned (after_turn m) j s) (h.each j (omega arith)) in
    let count = turns_of_turned m j s in
    omega arith
