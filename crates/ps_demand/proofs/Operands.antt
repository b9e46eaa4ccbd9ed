-- The operands of a value, one after another.
use Rattle.std.proofs.Common.{◌≡◌, ℕ, ◌+◌, ◌<◌, List, map, drop, length, get_or, ap}
use Rattle.ps_model.specs.declared.expr.Expr.{Expr}
use Rattle.ps_model.specs.Exprs.{formula, operands}
use Rattle.ps_model.specs.Formula.{operand}
use Rattle.ps_model.proofs.Rest.{rest_at}

-- the operands that are left are the next one and those after it
pub operands_at : (all : List Expr) (i : ℕ) (x : Expr) → i < length all → x ≡ get_or all i x →
    operands (map formula (drop i all)) ≡ operand (formula x) (operands (map formula (drop (i + 1) all)))
operands_at all i x inside is = ap (λ es. operands (map formula es)) (rest_at all i x inside is)
