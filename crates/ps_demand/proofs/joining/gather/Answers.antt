use Rattle.std.proofs.Common.{◌<◌, map, length, sym, ap, ◌∙◌, arith}
use Rattle.std.proofs.lemmas.List.{length-map}
use Rattle.ps_demand.specs.Requirement.{group, requirements}
use Rattle.ps_demand.specs.Views.{requirement}
use Rattle.ps_demand.proofs.Parts.{gathered_many}
use Rattle.ps_demand.proofs.Views.{requirement-All, requirement-Any}
use Rattle.ps_demand.proofs.joining.gather.Goals as goal

pub returns-in-And : goal.returns-in-And
returns-in-And c =
    let ds = map requirement c.args.parts.items in
    let many : 1 < length ds = omega (arith, length-map c.args.parts.items requirement) in
    requirement-All _ ∙ sym (ap (λ j. group j (requirements ds)) c.in-And.is) ∙ sym (gathered_many c.args.join ds many)

pub returns-in-Or : goal.returns-in-Or
returns-in-Or c =
    let ds = map requirement c.args.parts.items in
    let many : 1 < length ds = omega (arith, length-map c.args.parts.items requirement) in
    requirement-Any _ ∙ sym (ap (λ j. group j (requirements ds)) c.in-Or.is) ∙ sym (gathered_many c.args.join ds many)
