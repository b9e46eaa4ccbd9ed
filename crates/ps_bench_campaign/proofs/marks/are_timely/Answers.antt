use Rattle.std.proofs.Common.{List, subst}
use Rattle.std.specs.List.{All}
use Rattle.std.proofs.lemmas.List.{take_all}
use Rattle.std.proofs.lemmas.List.Elements.{All-more}
use Rattle.ps_bench_trials.specs.declared.step.Step.{Step}
use Rattle.ps_bench_campaign.specs.Marks.{IsShort}
use Rattle.ps_bench_campaign.proofs.Marking.{timely}
use Rattle.ps_bench_campaign.proofs.marks.are_timely.Goals as goal

pub loop-step-preserved : goal.loop-step-preserved
loop-step-preserved c =
    All-more IsShort c.args.steps.now c.loop-step.step-index c.step-item.result c.loop-step-test.true c.loop-step.invariant
    (subst IsShort c.step-item.is c.is_short.ensures)

pub returns : goal.returns
returns c =
    timely c.args._app.now 0 c.args.steps.now c.requires
    (subst (λ (ss : List Step). All IsShort ss) (take_all c.loop-step.step-index c.args.steps.now c.loop-step-test.false) c.loop-step.invariant)
