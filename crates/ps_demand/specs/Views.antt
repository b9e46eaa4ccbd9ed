-- What a `Demand` of the program says: contracts see it as a requirement.
use Rattle.ps_demand.specs.declared.demand.Demand.{Demand, Demand-F, fold-Demand}
use Rattle.ps_demand.specs.declared.demand.Demands.{Demands-F}
use Rattle.ps_demand.specs.declared.join.Join.TheVariants.{And, Or}
use Rattle.ps_demand.specs.Requirement.{Requirement, Requirements, always, never, now, before, not_now, not_before}
use Rattle.ps_demand.specs.Requirement.{group, requirements}

-- one part of a formula, once what it holds is a requirement
abbrev pub requirement_of_part : Demand-F Requirement Requirements → Requirement
requirement_of_part Demand-F.True = always
requirement_of_part Demand-F.False = never
requirement_of_part (Demand-F.Now s) = now s
requirement_of_part (Demand-F.Before s) = before s
requirement_of_part (Demand-F.NotNow s) = not_now s
requirement_of_part (Demand-F.NotBefore s) = not_before s
requirement_of_part (Demand-F.All ds) = group And ds
requirement_of_part (Demand-F.Any ds) = group Or ds

-- a list of parts, once each is a requirement
abbrev pub requirements_of_parts : Demands-F Requirement Requirements → Requirements
requirements_of_parts ds = requirements ds.items.items

-- the requirement that a demand is
abbrev pub requirement : Demand → Requirement
requirement = fold-Demand Requirement Requirements requirement_of_part requirements_of_parts
