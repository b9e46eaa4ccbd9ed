use Rattle.std.proofs.Common.{◌∙◌, ap, sym}
use Rattle.ps_why.specs.Reasons.{reasons_of}
use Rattle.ps_why.proofs.Adding.{ok_each}
use Rattle.ps_why.proofs.explaining.facts_of.Goals as goal

pub returns-in-SignalIs : goal.returns-in-SignalIs
returns-in-SignalIs c =
    ok_each c.signal_facts.result (λ facts h. h ∙ sym (ap (reasons_of c.args.app.now c.args.scene.now) c.in-SignalIs.is)) c.signal_facts.ensures

pub returns-in-PinIs : goal.returns-in-PinIs
returns-in-PinIs c =
    ok_each c.pin_facts.result (λ facts h. h ∙ sym (ap (reasons_of c.args.app.now c.args.scene.now) c.in-PinIs.is)) c.pin_facts.ensures

pub returns-in-AskIs : goal.returns-in-AskIs
returns-in-AskIs c =
    ok_each c.ask_facts.result (λ facts h. h ∙ sym (ap (reasons_of c.args.app.now c.args.scene.now) c.in-AskIs.is)) c.ask_facts.ensures

pub returns-in-StateIs : goal.returns-in-StateIs
returns-in-StateIs c =
    ok_each c.state_facts.result (λ facts h. h ∙ sym (ap (reasons_of c.args.app.now c.args.scene.now) c.in-StateIs.is)) c.state_facts.ensures

pub returns-in-ModeIs : goal.returns-in-ModeIs
returns-in-ModeIs c =
    ok_each c.mode_facts.result (λ facts h. h ∙ sym (ap (reasons_of c.args.app.now c.args.scene.now) c.in-ModeIs.is)) c.mode_facts.ensures
