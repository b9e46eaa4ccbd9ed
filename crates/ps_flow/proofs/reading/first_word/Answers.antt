use Rattle.ps_flow.proofs.Pieces.{words_split, one_word}
use Rattle.ps_flow.proofs.reading.first_word.Goals as goal

pub returns-in-Some-clause-words : goal.returns-in-Some-clause-words
returns-in-Some-clause-words c = words_split c.args.line.now _ _ c.in-Some.ensures.found.0 c.in-Some.ensures.found.1

pub returns-in-None-clause-words : goal.returns-in-None-clause-words
returns-in-None-clause-words c = one_word c.args.line.now c.in-None.ensures.none
