use Rattle.std.proofs.Common.{◌≡◌, List, ◌++◌, map, false, sym, ap, ◌∙◌}
use Rattle.ps_demand.specs.declared.demand.Demand.{Demand}
use Rattle.ps_demand.specs.Requirement.{same}
use Rattle.ps_demand.specs.Slim.{neutral, telling}
use Rattle.ps_demand.specs.Views.{requirement}
use Rattle.ps_demand.proofs.Parts.{inserted}
use Rattle.ps_demand.proofs.joining.telling_parts.Goals as goal

pub loop-part-preserved-in_ok-insert : goal.loop-part-preserved-in_ok-insert
loop-part-preserved-in_ok-insert c =
    let join = c.args.join in
    let d = c.in-Some.part in
    let keys : List Demand = c.loop-part.set.keys in
    let rest : List Demand = c.next.new.self.rest.items in
    let speaks : same (requirement d) (neutral join) ≡ false = sym c.is_silent.ensures ∙ c.if-not-is_silent.true in
    ap (λ (ks : List Demand). map requirement ks ++ telling join (map requirement ks) (map requirement rest)) c.in_ok-insert.ensures.keys
    ∙ inserted requirement join d keys rest speaks
    ∙ ap (λ (left : List Demand). map requirement keys ++ telling join (map requirement keys) (map requirement left)) (sym c.in-Some.ensures.steps.0)
    ∙ c.loop-part.invariant
