use Rattle.std.proofs.Common.{ap}
use Rattle.ps_top.specs.Calls.{Loans}
use Rattle.ps_top.proofs.program.do_all.Goals as goal

pub returns-clause-files : goal.returns-clause-files
returns-clause-files g c = ap (λ (l : Loans). l.files) c.do_words.ensures.answers.causes.keeps.loans

pub returns-clause-out : goal.returns-clause-out
returns-clause-out g c = ap (λ (l : Loans). l.out) c.do_words.ensures.answers.causes.keeps.loans

pub returns-clause-left : goal.returns-clause-left
returns-clause-left g c = ap (λ (l : Loans). l.left) c.do_words.ensures.answers.causes.keeps.loans
