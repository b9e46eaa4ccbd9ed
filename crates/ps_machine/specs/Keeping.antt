-- That a machine keeps the meaning of an application: what each compiler promises, and all that a world of channels
-- asks of it. `Stands w t cells` says when cells stand for the state w after a scan at time t.
use Rattle.std.specs.Prelude.{◌≡◌, ◌≢◌, ℕ, ◌-◌, ◌^◌, ◌<◌, ◌≤◌, Bool, List, length, Some}
use Rattle.ps_model.specs.declared.channel.Progress.TheVariants.{Running, Done}
use Rattle.ps_model.specs.Network.{Network, input_count}
use Rattle.ps_model.specs.Scanning.{State, Solves, block_in}
use Rattle.ps_model.specs.Meaning.{first_state, report}
use Rattle.ps_machine.specs.Machines.{Machine, turned}

-- The time that passed is that since the scan of old. Nothing reads the age of an idle block, so where all are idle it
-- may be any.
abbrev pub Passes : (old : State) (t now dt : ℕ) → Type 0
Passes old t now dt = (i : ℕ) → (block_in old i).code ≢ 0 → dt ≡ now - t

-- From these cells the code as compiled runs for exactly so many turns, and then they stand for w and report it.
pub record RunsFor (net : Network) (m : Machine) (Stands : State → ℕ → List ℕ → Type 0) (turns : ℕ) (cells : List ℕ) (w : State) (now : ℕ) : Type 0 where
  pub running : (j : ℕ) → j < turns → m.progress (turned (m.turn m.image) j cells) ≡ Running
  pub done : m.progress (turned (m.turn m.image) turns cells) ≡ Done
  pub stands : Stands w now (turned (m.turn m.image) turns cells)
  pub reports : m.report (turned (m.turn m.image) turns cells) ≡ Some (report net w)

-- The same for some number of turns within the budget.
pub record RunsTo (net : Network) (m : Machine) (Stands : State → ℕ → List ℕ → Type 0) (cells : List ℕ) (w : State) (now : ℕ) : Type 0 where
  pub turns : ℕ
  pub within : turns ≤ m.budget
  pub runs : RunsFor net m Stands turns cells w now

-- A machine keeps the meaning of an application: blank cells stand for the first state, and from cells that stand for
-- any state a scan that is not earlier ends without a trap within the budget, in cells that stand for the state that
-- solves it.
pub record Keeps (net : Network) (m : Machine) (Stands : State → ℕ → List ℕ → Type 0) : Type 0 where
  pub blank : Stands (first_state net) 0 m.blank
  pub scan : (old new : State) (ins : List Bool) (t now dt : ℕ) (cells : List ℕ) → t ≤ now → now < 2 ^ 32 → length ins ≡ input_count net →
      Passes old t now dt → Stands old t cells → Solves net old ins dt new → RunsTo net m Stands (m.begin now ins cells) new now

-- The same, where every scan takes exactly the budget of turns.
pub record KeepsExactly (net : Network) (m : Machine) (Stands : State → ℕ → List ℕ → Type 0) : Type 0 where
  pub blank : Stands (first_state net) 0 m.blank
  pub scan : (old new : State) (ins : List Bool) (t now dt : ℕ) (cells : List ℕ) → t ≤ now → now < 2 ^ 32 → length ins ≡ input_count net →
      Passes old t now dt → Stands old t cells → Solves net old ins dt new → RunsFor net m Stands m.budget (m.begin now ins cells) new now
