-- The requirement of each kind of demand.
use Rattle.std.proofs.Common.{◌≡◌, ℕ, map, sym, ap, ◌∙◌}
use Rattle.ps_demand.specs.declared.join.Join.TheVariants.{And, Or}
use Rattle.ps_demand.specs.declared.demand.Demand.{Demand, Demand-F, fold-roll-Demand}
use Rattle.ps_demand.specs.declared.demand.Demand.TheVariants.{True, NotBefore, All, Any, rolls-True, rolls-NotBefore, rolls-All, rolls-Any}
use Rattle.ps_demand.specs.declared.demand.Demands.{Demands-F, fold-Demands, fold_out-Demands}
use Rattle.ps_demand.specs.Requirement.{Requirement, Requirements, always, not_before, group, requirements}
use Rattle.ps_demand.specs.Views.{requirement, requirement_of_part, requirements_of_parts}

requirements-group : (ds : Demands-F Demand (Unit {0})) →
    fold-Demands Requirement Requirements requirement_of_part requirements_of_parts ds ≡ requirements (map requirement ds.items.items)
requirements-group ds = fold_out-Demands Requirement Requirements requirement_of_part requirements_of_parts ds

pub requirement-All : (ds : Demands-F Demand (Unit {0})) → requirement (All ds) ≡ group And (requirements (map requirement ds.items.items))
requirement-All ds =
    ap requirement (sym (rolls-All ds)) ∙ fold-roll-Demand Requirement Requirements requirement_of_part requirements_of_parts (Demand-F.All ds)
    ∙ ap (group And) (requirements-group ds)

pub requirement-Any : (ds : Demands-F Demand (Unit {0})) → requirement (Any ds) ≡ group Or (requirements (map requirement ds.items.items))
requirement-Any ds =
    ap requirement (sym (rolls-Any ds)) ∙ fold-roll-Demand Requirement Requirements requirement_of_part requirements_of_parts (Demand-F.Any ds)
    ∙ ap (group Or) (requirements-group ds)

pub requirement-True : requirement True ≡ always
requirement-True =
    ap requirement (sym rolls-True) ∙ fold-roll-Demand Requirement Requirements requirement_of_part requirements_of_parts Demand-F.True

pub requirement-NotBefore : (s : ℕ) → requirement (NotBefore s) ≡ not_before s
requirement-NotBefore s =
    ap requirement (sym (rolls-NotBefore s)) ∙ fold-roll-Demand Requirement Requirements requirement_of_part requirements_of_parts (Demand-F.NotBefore s)
