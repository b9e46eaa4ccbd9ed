-- What a formula's value follows from.
use Rattle.std.proofs.Common.{ℕ, Bool, true, false, inl, inr}
use Rattle.ps_model.specs.Formula.{Formula, Formulas, signal, all_of, any_of, no_operand, operand}
use Rattle.ps_why.specs.Operands.{EachHasValue, HasValue, SomeHasValue}

-- what follows from some follows from more
module _ (R R' : ℕ → Bool → Type 0) (more : (s : ℕ) (b : Bool) → R s b → R' s b) where
  mutual
    pub by_more : (e : Formula) (b : Bool) → HasValue R e b → HasValue R' e b
    by_more (signal s) b h = more s b h
    by_more (all_of es) true h = each_by_more es true h
    by_more (all_of es) false h = some_by_more es false h
    by_more (any_of es) true h = some_by_more es true h
    by_more (any_of es) false h = each_by_more es false h

    each_by_more : (es : Formulas) (b : Bool) → EachHasValue R es b → EachHasValue R' es b
    each_by_more no_operand b h = tt
    each_by_more (operand e es) b h = (by_more e b h.0, each_by_more es b h.1)

    some_by_more : (es : Formulas) (b : Bool) → SomeHasValue R es b → SomeHasValue R' es b
    some_by_more no_operand b h = h
    some_by_more (operand e es) b (inl h) = inl (by_more e b h)
    some_by_more (operand e es) b (inr h) = inr (some_by_more es b h)
