-- The value of a formula by what is told of the signals that it reads.
use Rattle.std.specs.Prelude.{◌⊎◌, ℕ, Bool, true, false}
use Rattle.ps_model.specs.Formula.{Formula, Formulas, signal, all_of, any_of, no_operand, operand}

-- `Reads s b`: it is told that signal s reads b
module _ (Reads : ℕ → Bool → Type 0) where
  abbrev mutual
    -- A formula has a value by what is told: a FALSE AND by a FALSE operand, a TRUE one by all, an OR the other way.
    pub HasValue : Formula → Bool → Type 0
    HasValue (signal s) b = Reads s b
    HasValue (all_of es) true = EachHasValue es true
    HasValue (all_of es) false = SomeHasValue es false
    HasValue (any_of es) true = SomeHasValue es true
    HasValue (any_of es) false = EachHasValue es false

    -- each operand has it
    pub EachHasValue : Formulas → Bool → Type 0
    EachHasValue no_operand b = Unit {0}
    EachHasValue (operand e es) b = HasValue e b × EachHasValue es b

    -- some operand has it
    pub SomeHasValue : Formulas → Bool → Type 0
    SomeHasValue no_operand b = ⊥
    SomeHasValue (operand e es) b = HasValue e b ⊎ SomeHasValue es b
