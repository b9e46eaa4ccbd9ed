-- The values of an application, and what its invariant says of each.
use Rattle.std.specs.Prelude.{ℕ, Bool, false, List, [], ◌∷◌, ◌+◌, ◌<◌, ◌≤◌, ◌||◌, ◌==◌, max}
use Rattle.std.specs.List.{flat_map, list_any}
use Rattle.ps_model.specs.Formula.{Formula, Formulas, signal, all_of, any_of, no_operand, operand}
use Rattle.ps_model.specs.Action.{Actual, Action, wired, assigns, calls}
use Rattle.ps_model.specs.Network.{Network}

-- the value that stands at a pin, if one does
abbrev pub values_at_pin : Actual → List Formula
values_at_pin (wired e) = e ∷ []
values_at_pin _ = []

-- the values of a step: what is assigned, or what stands at the pins of a call
abbrev pub values_of_step : Action → List Formula
values_of_step (assigns t e) = e ∷ []
values_of_step (calls i args) = flat_map values_at_pin args

-- the values of an application, in the order of steps and pins
abbrev pub values : Network → List Formula
values net = flat_map values_of_step net.steps

-- every signal of a formula is below n
abbrev mutual
  pub IsBelow : ℕ → Formula → Type 0
  IsBelow n (signal s) = s < n
  IsBelow n (all_of es) = AreBelow n es
  IsBelow n (any_of es) = AreBelow n es

  -- every signal of each operand is below n
  pub AreBelow : ℕ → Formulas → Type 0
  AreBelow n no_operand = Unit {0}
  AreBelow n (operand e es) = IsBelow n e × AreBelow n es

-- how many operands there are
abbrev pub operand_count : Formulas → ℕ
operand_count no_operand = 0
operand_count (operand e es) = operand_count es + 1

-- every AND and OR of a formula has two or more operands
abbrev mutual
  pub HasOperands : Formula → Type 0
  HasOperands (signal s) = Unit {0}
  HasOperands (all_of es) = (2 ≤ operand_count es) × HaveOperands es
  HasOperands (any_of es) = (2 ≤ operand_count es) × HaveOperands es

  -- every AND and OR of each operand has two or more
  pub HaveOperands : Formulas → Type 0
  HaveOperands no_operand = Unit {0}
  HaveOperands (operand e es) = HasOperands e × HaveOperands es

-- how deep AND and OR are nested
abbrev mutual
  pub depth : Formula → ℕ
  depth (signal s) = 0
  depth (all_of es) = deepest es + 1
  depth (any_of es) = deepest es + 1

  -- how deep the deepest operand is
  pub deepest : Formulas → ℕ
  deepest no_operand = 0
  deepest (operand e es) = max (depth e) (deepest es)

-- whether a formula reads a signal
abbrev mutual
  pub reads : ℕ → Formula → Bool
  reads s (signal t) = t == s
  reads s (all_of es) = some_reads s es
  reads s (any_of es) = some_reads s es

  -- whether an operand reads it
  pub some_reads : ℕ → Formulas → Bool
  some_reads s no_operand = false
  some_reads s (operand e es) = reads s e || some_reads s es

-- some value of the application reads the signal
abbrev pub is_read : Network → ℕ → Bool
is_read net s = list_any (reads s) (values net)
