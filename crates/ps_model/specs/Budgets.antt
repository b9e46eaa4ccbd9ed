-- The budgets of channels A and B: how many instructions and rows their code has (profile).
-- A turn does one instruction or row, and each is done once in a scan.
use Rattle.std.specs.Prelude.{◌≡◌, ℕ, ◌+◌, ◌-◌, ◌<◌, length, take, count_by, sum_by, Bool, true, false}
use Rattle.ps_model.specs.declared.kind.Kind.{Kind}
use Rattle.ps_model.specs.declared.kind.Ty.{Ty}
use Rattle.ps_model.specs.declared.kind.Ty.TheVariants.{Time}
use Rattle.ps_model.specs.Formula.{Formula, Formulas, signal, all_of, any_of, no_operand, operand}
use Rattle.ps_model.specs.Action.{Actual, Action, wired, assigns, calls}
use Rattle.ps_model.specs.Blocks.{block}
use Rattle.ps_model.specs.Network.{Network, kind_at, instance_count}

-- a pin is Boolean where its type is not TIME
abbrev pub is_boolean : Ty → Bool
is_boolean Time = false
is_boolean _ = true

-- how many Boolean input pins a kind has; they come before its TIME pin
unfoldable pub boolean_count : Kind → ℕ
boolean_count kind = count_by (λ p. is_boolean p.ty) (block kind).inputs

-- where the step is a call, it is of a declared instance and has one argument for each input pin of its kind
abbrev pub IsCall : Network → Action → Type 0
IsCall net (assigns t e) = Unit {0}
IsCall net (calls i args) = (i < instance_count net) × (length args ≡ length (block (kind_at net i)).inputs)

-- ---- channel A

-- a signal is loaded; the operands of a group are computed one after another, and each but the first is joined to what
-- stands there
abbrev mutual
  pub instructions : Formula → ℕ
  instructions (signal s) = 1
  instructions (all_of es) = joined es - 1
  instructions (any_of es) = joined es - 1

  -- each operand's own instructions and one to join it
  pub joined : Formulas → ℕ
  joined no_operand = 0
  joined (operand e es) = instructions e + 1 + joined es

-- a value is computed, and all else at a Boolean pin is a constant
abbrev pub instructions_at_pin : Actual → ℕ
instructions_at_pin (wired e) = instructions e
instructions_at_pin _ = 1

-- a value and the store of its target, or the Boolean pins and the call
abbrev pub instructions_of_step : Network → Action → ℕ
instructions_of_step net (assigns t e) = instructions e + 1
instructions_of_step net (calls i args) = sum_by instructions_at_pin (take (boolean_count (kind_at net i)) args) + 1

-- all instructions, and the one that ends the scan
abbrev pub turns_a : Network → ℕ
turns_a net = sum_by (instructions_of_step net) net.steps + 1

-- ---- channel B

-- a signal is its own operand; of a group each operand is placed, and then set or joined
abbrev mutual
  pub equation_rows : Formula → ℕ
  equation_rows (signal s) = 0
  equation_rows (all_of es) = equation_rows_below es
  equation_rows (any_of es) = equation_rows_below es

  -- each operand's own rows and one to set or join it
  pub equation_rows_below : Formulas → ℕ
  equation_rows_below no_operand = 0
  equation_rows_below (operand e es) = equation_rows e + 1 + equation_rows_below es

-- all but a value is a constant
abbrev pub equation_rows_at_pin : Actual → ℕ
equation_rows_at_pin (wired e) = equation_rows e
equation_rows_at_pin _ = 0

-- a value and the row of its target, or the Boolean pins and the row of the call
abbrev pub equation_rows_of_step : Network → Action → ℕ
equation_rows_of_step net (assigns t e) = equation_rows e + 1
equation_rows_of_step net (calls i args) = sum_by equation_rows_at_pin (take (boolean_count (kind_at net i)) args) + 1

-- all rows, and the one that ends the scan
abbrev pub turns_b : Network → ℕ
turns_b net = sum_by (equation_rows_of_step net) net.steps + 1
