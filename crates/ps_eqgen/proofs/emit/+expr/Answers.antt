use Rattle.std.proofs.Common.{◌≡◌, ◌++◌, [], ap, sym, subst, ◌∙◌, map, drop, append-nil, arith}
use Rattle.std.proofs.lemmas.Grind.{common_steps}
use Rattle.ps_model.specs.Exprs.{formula, operands}
use Rattle.ps_model.proofs.Formulas.{formula-And, formula-Or}
use Rattle.ps_eqvm.specs.Code.{bytes_of}
use Rattle.ps_eqvm.specs.declared.opcode.Gate.TheVariants.{Set}
use Rattle.ps_eqgen.specs.Written.{rows_left}
use Rattle.ps_eqgen.proofs.Written.{all_left}
use Rattle.ps_eqgen.proofs.emit.+expr.Goals as goal

pub emit_expression-returns-in-And : goal.emit_expression-returns-in-And
emit_expression-returns-in-And t c = rw (c.in-And.is, formula-And, ← c.deref.ensures.value) c.emit_group.ensures

pub emit_expression-returns-in-Or : goal.emit_expression-returns-in-Or
emit_expression-returns-in-Or t c = rw (c.in-Or.is, formula-Or, ← c.deref-in-Or.ensures.value) c.emit_group-in-Or.ensures

pub emit_group-returns : goal.emit_group-returns
emit_group-returns t c =
    let all = operands (map formula c.args.all.now) in
    let end : drop c.loop-x.x-index c.args.all.now ≡ [] = grind (arith, common_steps) in
    let written = subst (λ z. c.loop-x.code.items ++ bytes_of (rows_left c.args.level c.loop-x.gate c.args.join (operands (map formula z)))
    ≡ c.args.code.now.items ++ bytes_of (rows_left c.args.level Set c.args.join all)) end c.loop-x.invariant.written in
    sym (append-nil c.loop-x.code.items) ∙ written ∙ ap (λ l. c.args.code.now.items ++ bytes_of l) (all_left c.args.level c.args.join all)
