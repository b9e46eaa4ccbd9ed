use Rattle.std.proofs.Common.{◌≡◌, ◌++◌, [], ap, sym, subst, ◌∙◌, map, drop, append-nil, arith}
use Rattle.std.proofs.lemmas.Grind.{common_steps}
use Rattle.ps_model.specs.Exprs.{formula, operands}
use Rattle.ps_model.proofs.Formulas.{formula-And, formula-Or}
use Rattle.ps_stackvm.specs.Code.{bytes_of}
use Rattle.ps_stackgen.specs.Written.{left_code}
use Rattle.ps_stackgen.proofs.Written.{all_left}
use Rattle.ps_stackgen.proofs.emit.+expr.Goals as goal

pub emit_expression-returns-in-And : goal.emit_expression-returns-in-And
emit_expression-returns-in-And t c = rw (c.in-And.is, formula-And, ← c.deref.ensures.value) c.emit_group.ensures

pub emit_expression-returns-in-Or : goal.emit_expression-returns-in-Or
emit_expression-returns-in-Or t c = rw (c.in-Or.is, formula-Or, ← c.deref-in-Or.ensures.value) c.emit_group-in-Or.ensures

pub emit_group-returns : goal.emit_group-returns
emit_group-returns t c =
    let all = operands (map formula c.args.all.now) in
    let end : drop c.loop-place.place c.args.all.now ≡ [] = grind (arith, common_steps) in
    let written = subst (λ z. c.loop-place.code.items ++ bytes_of (left_code c.args.join c.loop-place.place (operands (map formula z)))
    ≡ c.args.code.now.items ++ bytes_of (left_code c.args.join 0 all)) end c.loop-place.invariant in
    sym (append-nil c.loop-place.code.items) ∙ written ∙ ap (λ l. c.args.code.now.items ++ bytes_of l) (all_left c.args.join all)
