use Rattle.std.proofs.Common.{List, subst, sym}
use Rattle.std.specs.Prelude.{All}
use Rattle.ps_model.specs.declared.demands.Need.{Need}
use Rattle.ps_model.specs.declared.demands.Need.TheVariants.{On}
use Rattle.ps_demand.specs.Passes.{IsNeedOf}
use Rattle.ps_demand.proofs.NeedPins.{needs_within}
use Rattle.ps_demand.proofs.counting.count_output.Goals as goal

pub count_need-requires-clause-pin : goal.count_need-requires-clause-pin
count_need-requires-clause-pin c =
    let within : All (IsNeedOf c.args.kind) c.demand-needs.result.now =
    subst (λ (needs : List Need). All (IsNeedOf c.args.kind) needs) (sym c.demand-needs.ensures) (needs_within c.args.kind c.args.output) in
    within c.loop-need.need-index (On 0) c.loop-need-test.true
