-- Transition tables as data: for each state its guards in order, each with the next state. A state is named by its
-- DiagCode.
use Rattle.std.specs.Prelude.{ℕ, Bool, true, false, List, [], ◌∷◌, ◌&&◌, ◌||◌, ◌==◌, not, if◌then◌else◌}

-- What the guards of a step see: the value of each Boolean input pin; whether Reset rose (`edge`) or is held
-- (`static`), whether the auxiliary input rose, and whether the limit has elapsed; how many modes are TRUE, and whether
-- they are just the latched one.
pub record Conditions : Type 0 where
  pub pin : ℕ → Bool
  pub edge : Bool
  pub static : Bool
  pub rise : Bool
  pub elapsed : Bool
  pub modes : ℕ
  pub exact : Bool

-- A guard holds of some conditions and not of others.
abbrev pub Guard : Type 0
Guard = Conditions → Bool

-- A guard, and the state that it leads to.
pub record Rule : Type 0 where
  pub guard : Guard
  pub next : ℕ

infix 80 ◌⇒◌
-- a rule, as the tables write it
abbrev pub ◌⇒◌ : Guard → ℕ → Rule
g ⇒ q = record { guard = g; next = q }

-- A state, the condition under which its time restarts while it stays, and its rules in order.
pub record Row : Type 0 where
  pub state : ℕ
  pub restart : Guard
  pub rules : List Rule

-- the guard that no conditions meet
abbrev pub never : Guard
never c = false

-- the guard that all conditions meet
abbrev pub otherwise : Guard
otherwise c = true

-- ---- The words of the guards.

-- a pin is TRUE, by its number
abbrev pub pin : ℕ → Guard
pin j c = c.pin j

-- Reset rose
abbrev pub edge : Guard
edge c = c.edge

-- Reset is held
abbrev pub static : Guard
static c = c.static

-- the auxiliary input rose
abbrev pub rise : Guard
rise c = c.rise

-- the limit has elapsed
abbrev pub elapsed : Guard
elapsed c = c.elapsed

infixr 90 ◌and◌
infixr 85 ◌or◌
-- both hold
abbrev pub ◌and◌ : Guard → Guard → Guard
(g and h) c = g c && h c

-- at least one holds
abbrev pub ◌or◌ : Guard → Guard → Guard
(g or h) c = g c || h c

-- the guard does not hold
abbrev pub no : Guard → Guard
no g c = not (g c)

-- A state with these rules and no restart condition.
abbrev pub in_state : ℕ → List Rule → Row
in_state q rules = record { state = q; restart = never; rules = rules }

-- The first rule whose guard holds decides. Where none holds the state stays.
abbrev pub decided : ℕ → List Rule → Conditions → ℕ
decided q [] c = q
decided q (r ∷ rules) c = if r.guard c then r.next else decided q rules c

-- The row of a state. A state of no row has no rules.
abbrev pub row_at : List Row → ℕ → Row
row_at [] q = in_state q []
row_at (r ∷ rows) q = if r.state == q then r else row_at rows q
