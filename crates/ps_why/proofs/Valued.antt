-- A formula has the value that follows from what is told of its signals.
use Rattle.std.proofs.Common.{◌≡◌, ℕ, Bool, true, false, refl, inl, inr}
use Rattle.std.proofs.lemmas.Bool.{and_from, and_left, and_right, or_from, or_left, or_right}
use Rattle.ps_model.specs.Formula.{Formula, Formulas, signal, all_of, any_of, no_operand, operand, value, all_true, any_true}
use Rattle.ps_why.specs.Operands.{HasValue, EachHasValue, SomeHasValue}

module _ (Reads : ℕ → Bool → Type 0) (v : ℕ → Bool) (reads : (s : ℕ) (b : Bool) → Reads s b → v s ≡ b) where
  mutual
    pub follows : (e : Formula) (b : Bool) → HasValue Reads e b → value v e ≡ b
    follows (signal s) b h = reads s b h
    follows (all_of es) true h = all_on es h
    follows (all_of es) false h = one_off es h
    follows (any_of es) true h = one_on es h
    follows (any_of es) false h = all_off es h

    all_on : (es : Formulas) → EachHasValue Reads es true → all_true v es ≡ true
    all_on no_operand h = refl
    all_on (operand e es) h = and_from (value v e) (all_true v es) (follows e true h.0) (all_on es h.1)

    one_off : (es : Formulas) → SomeHasValue Reads es false → all_true v es ≡ false
    one_off no_operand h = absurd h
    one_off (operand e es) (inl h) = and_left (value v e) (all_true v es) (follows e false h)
    one_off (operand e es) (inr h) = and_right (value v e) (all_true v es) (one_off es h)

    one_on : (es : Formulas) → SomeHasValue Reads es true → any_true v es ≡ true
    one_on no_operand h = absurd h
    one_on (operand e es) (inl h) = or_left (value v e) (any_true v es) (follows e true h)
    one_on (operand e es) (inr h) = or_right (value v e) (any_true v es) (one_on es h)

    all_off : (es : Formulas) → EachHasValue Reads es false → any_true v es ≡ false
    all_off no_operand h = refl
    all_off (operand e es) h = or_from (value v e) (any_true v es) (follows e false h.0) (all_off es h.1)
