use Rattle.std.proofs.Common.{◌≡◌, List, ◌++◌, OnOk, map, sym, ap, ◌∙◌, subst}
use Rattle.ps_demand.specs.declared.join.Join.TheVariants.{And, Or}
use Rattle.ps_demand.specs.Requirement.{Requirement}
use Rattle.ps_demand.specs.Slim.{parts_within}
use Rattle.ps_demand.specs.Views.{requirement}
use Rattle.ps_demand.proofs.Parts.{parts_of_list}
use Rattle.ps_demand.proofs.Views.{requirement-All, requirement-Any}
use Rattle.ps_demand.proofs.joining.add_part.Goals as goal

pub returns-in-And : goal.returns-in-And
returns-in-And c =
    let inside : parts_within c.args.join (requirement c.args.part) ≡ map requirement c.in-All.within.items.items =
    ap (λ j. parts_within j (requirement c.args.part)) c.in-And.is
    ∙ ap (parts_within And) (ap requirement c.in-All.is ∙ requirement-All _) ∙ parts_of_list (map requirement c.in-All.within.items.items) in
    subst (λ (z : List Requirement). OnOk c.add_each.result (map requirement c.add_each.new.parts.items ≡ map requirement c.args.parts.now.items ++ z)) (sym inside) c.add_each.ensures

pub returns-in-Or-join : goal.returns-in-Or-join
returns-in-Or-join c =
    let inside : parts_within c.args.join (requirement c.args.part) ≡ map requirement c.in-Any.within.items.items =
    ap (λ j. parts_within j (requirement c.args.part)) c.in-Or-join.is
    ∙ ap (parts_within Or) (ap requirement c.in-Any.is ∙ requirement-Any _) ∙ parts_of_list (map requirement c.in-Any.within.items.items) in
    subst (λ (z : List Requirement). OnOk c.add_each-in-Or-join.result (map requirement c.add_each-in-Or-join.new.parts.items ≡ map requirement c.args.parts.now.items ++ z)) (sym inside) c.add_each-in-Or-join.ensures
