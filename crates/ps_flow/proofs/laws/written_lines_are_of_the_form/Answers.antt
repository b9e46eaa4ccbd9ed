use Rattle.ps_flow.proofs.Cutting.{no_other_line}
use Rattle.ps_flow.proofs.laws.written_lines_are_of_the_form.Goals as goal

pub returns : goal.returns
returns c = λ lines text n all is first. no_other_line lines text n all is first
