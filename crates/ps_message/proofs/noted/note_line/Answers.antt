use Rattle.std.proofs.Common.{length, ◌≤◌}
use Rattle.ps_text.specs.Lines.{IsEnded}
use Rattle.ps_message.specs.NoteLine.{note_text}
use Rattle.ps_text.proofs.Joining.{of_given}
use Rattle.ps_message.proofs.NoteBounds.{length-note, note-ended}
use Rattle.ps_message.proofs.noted.note_line.Goals as goal

pub returns-clause-bounded : goal.returns-clause-bounded
returns-clause-bounded c =
    of_given (λ bytes. length bytes ≤ 4000) (note_text c.args.file.now c.args.app.now c.args.placed.now)
    (length-note c.args.file.now c.args.app.now c.args.placed.now c.written.ensures.numbers.0 c.written.ensures.numbers.1)
    c.written.result c.written.ensures.says

pub returns-clause-ended : goal.returns-clause-ended
returns-clause-ended c =
    of_given IsEnded (note_text c.args.file.now c.args.app.now c.args.placed.now) (note-ended c.args.file.now c.args.app.now c.args.placed.now) c.written.result c.written.ensures.says
