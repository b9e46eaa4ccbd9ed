-- What an `Expr` of the program says: contracts see it as a formula.
use Rattle.std.specs.Prelude.{List, [], ◌∷◌}
use Rattle.ps_model.specs.declared.expr.Expr.{Expr, Expr-F, fold-Expr}
use Rattle.ps_model.specs.declared.expr.Exprs.{Exprs, Exprs-F, fold-Exprs}
use Rattle.ps_model.specs.Formula.{Formula, Formulas, signal, all_of, any_of, no_operand, operand}

-- the formulas of a list as operands
abbrev pub operands : List Formula → Formulas
operands [] = no_operand
operands (e ∷ es) = operand e (operands es)

-- one node, once its operands are formulas
abbrev pub node_formula : Expr-F Formula Formulas → Formula
node_formula (Expr-F.Signal s) = signal s
node_formula (Expr-F.And es) = all_of es
node_formula (Expr-F.Or es) = any_of es

-- a list of operands, once each is a formula
abbrev pub group_formulas : Exprs-F Formula Formulas → Formulas
group_formulas es = operands es.items.items

-- the formula that an expression is
abbrev pub formula : Expr → Formula
formula = fold-Expr Formula Formulas node_formula group_formulas

-- the formulas of the operands
abbrev pub formulas : Exprs → Formulas
formulas = fold-Exprs Formula Formulas node_formula group_formulas
