use Rattle.std.proofs.Common.{arith, ◌∙◌, ◌≡◌, ℕ, Some, length, subst}
use Rattle.std.proofs.lemmas.Grind.{common_steps}
use Rattle.std.specs.Prelude.{slice_get}
use Rattle.ps_model.specs.Action.{Action, assigns, calls}
use Rattle.ps_model.specs.Network.{signal_count}
use Rattle.ps_model.specs.Steps.{action}
use Rattle.ps_model.specs.Values.{IsBelow, values_of_step}
use Rattle.ps_flow.specs.Derivation.{certificate}
use Rattle.ps_flow.specs.Refusals.{FitsStep}
use Rattle.ps_flow.proofs.Walk.{part_of, rest_found, found_below, found_same, steps_step}
use Rattle.ps_flow.proofs.flow.derive.Goals as goal
use Rattle.ps_flow.proofs.Short.{short_of_step}
use borrow.Author.Count.{below_more}

pub derive_step-requires-clause-nodes : goal.derive_step-requires-clause-nodes
derive_step-requires-clause-nodes c =
    let at = c.step.ensures in
    let next = rest_found c.args.app.now.steps c.loop-k.k (action c.step.result.now) at in
    grind (arith, common_steps)

pub derive_step-requires-clause-lines : goal.derive_step-requires-clause-lines
derive_step-requires-clause-lines c =
    let at = c.step.ensures in
    let next = rest_found c.args.app.now.steps c.loop-k.k (action c.step.result.now) at in
    grind (arith, common_steps)

pub derive_step-requires-clause-below : goal.derive_step-requires-clause-below
derive_step-requires-clause-below c =
    part_of (IsBelow (signal_count c.args.app.now)) values_of_step c.args.app.now.steps c.loop-k.k (action c.step.result.now) c.sound.ensures.values_below c.step.ensures

pub loop-k-preserved : goal.loop-k-preserved
loop-k-preserved c =
    let at = c.step.ensures in
    let next = rest_found c.args.app.now.steps c.loop-k.k (action c.step.result.now) at in
    let few = short_of_step c.args.app.now (length c.loop-k.cert) c.loop-k.node (action c.step.result.now) in
    record {
      fits = λ k a h. below_more (λ k. (a : Action) → slice_get c.args.app.now.steps k ≡ Some a → FitsStep c.args.app.now a) c.loop-k.k (λ k h a. c.loop-k.invariant.fits k a h)
          (λ a there. subst (FitsStep c.args.app.now) (found_same c.args.app.now.steps c.loop-k.k (action c.step.result.now) a at there) c.in-Ok.ensures.fits) k h a;
      place = grind (arith, common_steps);
      room = grind (arith, common_steps);
      lines = steps_step c.args.app.now c.loop-k.cert c.derive_step.new.cert c.loop-k.node c.in-Ok.after (action c.step.result.now) _ _ next c.in-Ok.ensures.after c.in-Ok.ensures.lines
          ∙ c.loop-k.invariant.lines;
    }

pub returns : goal.returns
returns c =
    let all : (k : ℕ) (a : Action) → slice_get c.args.app.now.steps k ≡ Some a → FitsStep c.args.app.now a =
    λ k a at. c.loop-k.invariant.fits k a (let h = found_below c.args.app.now.steps k a at in omega arith) at in
    let lines : c.loop-k.cert ≡ certificate c.args.app.now = grind (arith, common_steps) in (
      record {
        assigned = λ k t e at. all k (assigns t e) at;
        at_pins = λ k i j args at. all k (calls i args) at j;
      },
      lines,
    )
