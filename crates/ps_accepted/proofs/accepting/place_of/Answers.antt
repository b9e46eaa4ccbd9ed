use Rattle.std.proofs.Common.{◌≡◌, ◌<◌, ◌∙◌, ℕ, List, Option, Some, IsSome, length, sym, ap, subst, arith}
use Rattle.std.specs.Prelude.{slice_get}
use Rattle.ps_model.specs.Action.{Action, calls}
use Rattle.ps_model.specs.Blocks.{block}
use Rattle.ps_model.specs.Network.{kind_at}
use Rattle.ps_model.specs.Steps.{action}
use Rattle.ps_flow.specs.Refusals.{BreaksStep}
use Rattle.ps_parser.specs.Places.{step_place}
use Rattle.ps_accepted.specs.Source.{pin_name}
use Rattle.ps_accepted.proofs.Placing.{breaks_here, pin_is, breach_placed, target_placed}
use Rattle.ps_accepted.proofs.accepting.place_of.Goals as goal

pub place-requires : goal.place-requires
place-requires c =
    let net = c.args.app.now in
    let k = c.args.breach.step in
    let i = c.in-Call.instance in
    let j = c.in-Some.pin in
    let at : slice_get net.steps k ≡ Some (calls i c.in-Call.args) = c.step.ensures ∙ ap (λ s. Some (action s)) c.in-Call.is in
    let breaks : BreaksStep net (calls i c.in-Call.args) c.args.breach.rule (Some j) =
    subst (λ (o : Option ℕ). BreaksStep net (calls i c.in-Call.args) c.args.breach.rule o) c.in-Some.is
    (breaks_here net k c.args.breach.rule c.args.breach.pin (calls i c.in-Call.args) c.requires.breach at) in
    let within : j < length (block (kind_at net i)).inputs = omega (arith, breaks.0, c.sound.ensures.arguments k i c.in-Call.args at) in
    subst (λ (name : List ℕ). IsSome (step_place c.args.source.now k (Some name))) (pin_is c.instance_kind.result (kind_at net i) j c.pin_name.result.now c.instance_kind.ensures c.pin_name.ensures within)
    (breach_placed c.args.source.now net c.requires.stands k i j c.in-Call.args c.args.breach.rule at breaks)

pub place-requires-in-Assign : goal.place-requires-in-Assign
place-requires-in-Assign c = target_placed c.args.source.now c.args.app.now c.requires.stands c.args.breach.step c.requires.breach.action c.requires.breach.here

pub returns-in-Some : goal.returns-in-Some
returns-in-Some c =
    let net = c.args.app.now in
    let k = c.args.breach.step in
    let i = c.in-Call.instance in
    let j = c.in-Some.pin in
    let at : slice_get net.steps k ≡ Some (calls i c.in-Call.args) = c.step.ensures ∙ ap (λ s. Some (action s)) c.in-Call.is in
    let breaks : BreaksStep net (calls i c.in-Call.args) c.args.breach.rule (Some j) =
    subst (λ (o : Option ℕ). BreaksStep net (calls i c.in-Call.args) c.args.breach.rule o) c.in-Some.is
    (breaks_here net k c.args.breach.rule c.args.breach.pin (calls i c.in-Call.args) c.requires.breach at) in
    let within : j < length (block (kind_at net i)).inputs = omega (arith, breaks.0, c.sound.ensures.arguments k i c.in-Call.args at) in
    ap (λ (o : Option Action). step_place c.args.source.now k (pin_name net o c.args.breach.pin)) at
    ∙ ap (λ (o : Option ℕ). step_place c.args.source.now k (pin_name net (Some (calls i c.in-Call.args)) o)) c.in-Some.is
    ∙ ap (λ (name : List ℕ). step_place c.args.source.now k (Some name)) (pin_is c.instance_kind.result (kind_at net i) j c.pin_name.result.now c.instance_kind.ensures c.pin_name.ensures within)
    ∙ sym c.place.ensures
