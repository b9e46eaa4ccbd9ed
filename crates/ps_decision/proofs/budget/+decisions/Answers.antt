use Rattle.std.proofs.Common.{◌≡◌, map, refl, inl, inr, arith}
use Rattle.std.proofs.lemmas.Grind.{common_steps}
use Rattle.ps_model.specs.Exprs.{formula, operands}
use Rattle.ps_model.specs.Formula.{all_of, any_of}
use Rattle.ps_model.proofs.Formulas.{formula-And, formula-Or}
use Rattle.ps_decision.proofs.budget.+decisions.Goals as goal

pub loop-x-init : goal.loop-x-init
loop-x-init t c = elim c.in-And.is [
  | inl is ↦
      let whole : formula c.args.e.now ≡ all_of (operands (map formula c.deref-x-items.result.now)) = rw (is, formula-And, c.deref-x-items.ensures.value) refl in
      grind (arith, common_steps)
  | inr is ↦
      let whole : formula c.args.e.now ≡ any_of (operands (map formula c.deref-x-items.result.now)) = rw (is, formula-Or, c.deref-x-items.ensures.value) refl in
      grind (arith, common_steps)
]
