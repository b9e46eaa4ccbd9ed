use Rattle.std.proofs.Common.{◌∙◌, Err, ap}
use Rattle.ps_trace.specs.Reading.{file_of}
use Rattle.ps_top.proofs.Calling.{unread_items}
use Rattle.ps_top.proofs.running.run_items.Goals as goal

pub returns-in-Err-Unread-clause-causes : goal.returns-in-Err-Unread-clause-causes
returns-in-Err-Unread-clause-causes g c = unread_items (file_of c.args.trace.now) (c.in-Err-Unread.is ∙ ap Err c.in-Err-Unread.field-0-is) c.do_items.ensures.streams
