use Rattle.std.proofs.Common.{map, length, ap, ◌∙◌, sym}
use Rattle.std.proofs.lemmas.List.{length-map}
use Rattle.ps_model.specs.Formula.{all_of}
use Rattle.ps_model.specs.Exprs.{formula, operands}
use Rattle.ps_model.proofs.Formulas.{formula-And}
use Rattle.ps_names.proofs.Many.{all_many}
use Rattle.ps_names.proofs.joined.all_of.Goals as goal

pub returns-in-Err : goal.returns-in-Err
returns-in-Err c =
    formula-And _ ∙ ap (λ es. all_of (operands (map formula es))) c.in-Err.ensures.same
    ∙ sym (all_many (map formula c.args.items.items) (λ e. c.in-Err.ensures.many (ap length c.in-Err.ensures.same ∙ (sym (length-map c.args.items.items formula) ∙ e))))
