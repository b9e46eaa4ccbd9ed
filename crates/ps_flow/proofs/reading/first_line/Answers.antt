use Rattle.ps_flow.proofs.Pieces.{lines_split, one_line}
use Rattle.ps_flow.proofs.reading.first_line.Goals as goal

pub returns-in-Some-clause-lines : goal.returns-in-Some-clause-lines
returns-in-Some-clause-lines c = lines_split c.args.text.now _ _ c.in-Some.ensures.found.0 c.in-Some.ensures.found.1

pub returns-in-None-clause-lines : goal.returns-in-None-clause-lines
returns-in-None-clause-lines c = one_line c.args.text.now c.requires c.in-None.ensures.none
