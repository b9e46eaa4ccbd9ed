-- Boolean formulas over numbered signals, and their values. AND and OR of IEC 61131-3.
use Rattle.std.specs.Prelude.{ℕ, Bool, true, false, ◌&&◌, ◌||◌}

mutual
  -- a signal, the AND of operands, or their OR
  pub data Formula : Type 0 where
    signal : ℕ → Formula
    all_of : Formulas → Formula
    any_of : Formulas → Formula

  -- the operands, in order
  pub data Formulas : Type 0 where
    no_operand : Formulas
    operand : Formula → Formulas → Formulas

-- the value of a formula under v, which gives each signal's value
abbrev mutual
  pub value : (ℕ → Bool) → Formula → Bool
  value v (signal s) = v s
  value v (all_of es) = all_true v es
  value v (any_of es) = any_true v es

  -- every operand is TRUE
  pub all_true : (ℕ → Bool) → Formulas → Bool
  all_true v no_operand = true
  all_true v (operand e es) = value v e && all_true v es

  -- at least one operand is TRUE
  pub any_true : (ℕ → Bool) → Formulas → Bool
  any_true v no_operand = false
  any_true v (operand e es) = value v e || any_true v es
