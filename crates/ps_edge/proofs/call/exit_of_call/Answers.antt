use Rattle.std.proofs.Common.{◌∙◌, ap}
use Rattle.ps_edge.specs.Exit.{exit_number}
use Rattle.ps_edge.proofs.call.exit_of_call.Goals as goal

pub returns-clause-does : goal.returns-clause-does
returns-clause-does g c = (
  c.do_call-status.result,
  c.do_call-status.new.left,
  c.exit_code.ensures,
  c.do_call-status.ensures.does,
  (λ tells. (c.is_unread.result, c.is_unread.ensures, c.tell.ensures.told tells)),
)

pub returns-clause-handed_on : goal.returns-clause-handed_on
returns-clause-handed_on g c = λ not. c.do_call-status.ensures.handed_on (λ is. not (c.exit_code.ensures ∙ ap exit_number is))

pub returns-clause-quiet : goal.returns-clause-quiet
returns-clause-quiet g c = λ tells quiet. (c.tell.ensures.told tells).quiet quiet
