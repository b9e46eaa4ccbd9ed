use Rattle.std.proofs.Common.{◌++◌, codes, ap, sym, ◌∙◌}
use Rattle.std.specs.Prelude.{slice_get}
use Rattle.ps_message.specs.NoteLine.{signal_shown, step_shown, subject}
use Rattle.ps_text.proofs.Joining.{three_more}
use Rattle.ps_message.proofs.noted.add_subject.Goals as goal

pub returns-in_ok-add_step-in-Early : goal.returns-in_ok-add_step-in-Early
returns-in_ok-add_step-in-Early c =
    three_more c.args.message.now (signal_shown c.args.app.now c.in-Early.signal) (codes " is read in ")
    (step_shown c.args.app.now (slice_get c.args.app.now.steps c.in-Early.step)) c.add_signal.new.message c.extend_from_slice.new.self c.add_step.new.message
    c.in_ok-add_signal-in-Early.ensures c.in_ok-extend_from_slice-in-Early.ensures c.in_ok-add_step-in-Early.ensures
    ∙ ap (λ note. c.args.message.now ++ subject c.args.app.now note) (sym c.in-Early.is)
