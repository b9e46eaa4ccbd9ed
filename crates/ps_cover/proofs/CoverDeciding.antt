-- The operands of an expression, as formulas.
use Rattle.std.proofs.Common.{◌≡◌, ℕ, Bool, List, map, slice_get, Some, ap, ◌∙◌}
use Rattle.std.proofs.lemmas.List.{get_or-map}
use Rattle.std.proofs.lemmas.Option.{get_or_from_slice_get, slice_get_within}
use Rattle.ps_model.specs.Exprs.{formula}
use Rattle.ps_model.specs.Formula.{signal, value}
use Rattle.ps_model.specs.declared.expr.Expr.{Expr}
use Rattle.ps_cover.specs.Points.{value_at}

-- the value of the operand at a place
pub value_of : (v : ℕ → Bool) (xs : List Expr) (j : ℕ) (x : Expr) → slice_get xs j ≡ Some x → value_at v (map formula xs) j ≡ value v (formula x)
value_of v xs j x at =
    ap (value v) (get_or-map formula xs j x (signal 0) (slice_get_within xs j x at) ∙ ap formula (get_or_from_slice_get xs j x x at))
