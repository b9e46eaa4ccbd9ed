use Rattle.std.proofs.Common.{◌≡◌, ◌<◌, length, ◌∙◌, subst, IfOk, arith}
use Rattle.ps_demand.specs.Requirement.{Requirement}
use Rattle.ps_demand.specs.Demand.{demand}
use Rattle.ps_demand.specs.Slim.{slim}
use Rattle.ps_demand.specs.Views.{requirement}
use Rattle.ps_demand.proofs.Kept.{kept_at}
use Rattle.ps_demand.proofs.slimming.slim_demand.Goals as goal

pub overflow_add-signal : goal.overflow_add-signal
overflow_add-signal c = omega (arith, c.requires.below, c.sound.ensures.few_signals)

pub returns : goal.returns
returns c =
    let net = c.args.app.now in
    let s = c.args.signal in
    let rows = c.in_ok-rows.rows.items in
    let inside : s < length rows = omega (arith, c.in_ok-rows.ensures.long, c.requires.below) in
    let same : requirement c.index.result.now ≡ slim (demand net s) =
    kept_at rows s c.index.result.now inside c.index.ensures
    ∙ c.in_ok-rows.ensures.each s (omega arith) (omega arith) c.requires.safe c.requires.small in
    subst (λ (z : Requirement). IfOk c.copy.result (λ d. requirement d ≡ z)) same c.copy.ensures
