use Rattle.std.proofs.Common.{◌++◌, Some, codes, ap, sym, ◌∙◌}
use Rattle.ps_model.specs.Steps.{action}
use Rattle.ps_message.specs.NoteLine.{instance_shown, signal_shown, step_shown}
use Rattle.ps_text.proofs.Joining.{two_more}
use Rattle.ps_message.proofs.noted.add_action.Goals as goal

pub returns-in_ok-add_signal-in-Assign : goal.returns-in_ok-add_signal-in-Assign
returns-in_ok-add_signal-in-Assign c =
    two_more c.args.message.now (codes "the assignment to ") (signal_shown c.args.app.now c.in-Assign.target) c.extend_from_slice.new.self c.add_signal.new.message
    c.in_ok-extend_from_slice-in-Assign.ensures c.in_ok-add_signal-in-Assign.ensures
    ∙ ap (λ step. c.args.message.now ++ step_shown c.args.app.now (Some (action step))) (sym c.in-Assign.is)

pub returns-in_ok-add_instance-in-Call : goal.returns-in_ok-add_instance-in-Call
returns-in_ok-add_instance-in-Call c =
    two_more c.args.message.now (codes "the call of ") (instance_shown c.args.app.now c.in-Call.instance) c.extend_from_slice-in-Call.new.self c.add_instance.new.message
    c.in_ok-extend_from_slice-in-Call.ensures c.in_ok-add_instance-in-Call.ensures
    ∙ ap (λ step. c.args.message.now ++ step_shown c.args.app.now (Some (action step))) (sym c.in-Call.is)
