use Rattle.ps_ways.proofs.StateWording.{told_exactly, told_plain, told_short}
use Rattle.ps_ways.proofs.state_naming.state_words.Goals as goal

pub returns-clause-exactly : goal.returns-clause-exactly
returns-clause-exactly c = told_exactly (λ w. w.now) c.args.kind c.args.code c.words_of.result c.words_of.ensures

pub returns-clause-plain : goal.returns-clause-plain
returns-clause-plain c = told_plain (λ w. w.now) c.args.kind c.args.code c.words_of.result c.words_of.ensures

pub returns-clause-short : goal.returns-clause-short
returns-clause-short c = told_short (λ w. w.now) c.args.kind c.args.code c.words_of.result c.words_of.ensures
