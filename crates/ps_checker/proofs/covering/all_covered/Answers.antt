use Rattle.std.proofs.Common.{arith, ap, ◌∙◌, sym, refl, ◌+◌, ◌&&◌, length, drop}
use Rattle.std.proofs.lemmas.Grind.{common_steps}
use Rattle.std.specs.List.{list_all}
use Rattle.ps_model.specs.Steps.{action}
use Rattle.ps_model.specs.Nodes.{nodes_of_step}
use Rattle.ps_model.specs.Obligations.{obligations_from}
use Rattle.ps_flow.proofs.Walk.{rest_found}
use Rattle.ps_checker.specs.Marks.{is_marked}
use Rattle.ps_checker.proofs.Covered.{steps_split}
use Rattle.ps_checker.proofs.covering.all_covered.Goals as goal

pub step_covered-requires-clause-few : goal.step_covered-requires-clause-few
step_covered-requires-clause-few c =
    let at = c.step.ensures in
    let next = rest_found c.args.app.now.steps c.loop-k.k (action c.step.result.now) at in
    grind (arith, common_steps)

pub returns-in-None : goal.returns-in-None
returns-in-None c =
    let at = c.step.ensures in
    let next = rest_found c.args.app.now.steps c.loop-k.k (action c.step.result.now) at in
    sym (c.loop-k.invariant.covered
    ∙ steps_split (is_marked c.args.marks.now) c.args.app.now c.loop-k.node _ (action c.step.result.now) _ _ next refl
    ∙ ap (λ b. b && list_all (is_marked c.args.marks.now) (obligations_from c.args.app.now (c.loop-k.node + length (nodes_of_step (action c.step.result.now))) (drop (c.loop-k.k + 1) c.args.app.now.steps)))
    c.in-None.ensures.none)

pub loop-k-preserved : goal.loop-k-preserved
loop-k-preserved c =
    let at = c.step.ensures in
    let next = rest_found c.args.app.now.steps c.loop-k.k (action c.step.result.now) at in
    record {
      place = let is = c.in-Some.ensures.some.0 in grind (arith, common_steps);
      covered = c.loop-k.invariant.covered
          ∙ steps_split (is_marked c.args.marks.now) c.args.app.now c.loop-k.node _ (action c.step.result.now) _ _ next c.in-Some.ensures.some.0
          ∙ ap (λ b. b && list_all (is_marked c.args.marks.now) (obligations_from c.args.app.now c.in-Some.after (drop (c.loop-k.k + 1) c.args.app.now.steps))) c.in-Some.ensures.some.1;
    }
