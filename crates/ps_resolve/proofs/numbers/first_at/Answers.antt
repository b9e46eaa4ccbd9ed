use Rattle.std.proofs.Common.{arith}
use Rattle.std.proofs.lemmas.Option.{slice_get_within}
use Rattle.ps_resolve.specs.declared.numbers.Numbered.{Numbered}
use Rattle.ps_resolve.proofs.NumberLists.{first_is, before_below}
use Rattle.ps_resolve.proofs.numbers.first_at.Goals as goal

pub returns-then-k-numbering-clause-is : goal.returns-then-k-numbering-clause-is
returns-then-k-numbering-clause-is c = λ e at. first_is c.args.numbering.now.entries.now c.args.numbering.now.numbers.now c.args.k _ c.requires.numbers c.if-k-numbering.true

pub returns-then-k-numbering-clause-few : goal.returns-then-k-numbering-clause-few
returns-then-k-numbering-clause-few c =
    let nothing : Numbered = record { number = 0; first = 0 } in
    let is = first_is c.args.numbering.now.entries.now c.args.numbering.now.numbers.now c.args.k nothing c.requires.numbers c.if-k-numbering.true in
    let most = before_below c.args.numbering.now.entries.now c.args.k in let few = c.requires.few in omega arith

pub returns-else-k-numbering-clause-is : goal.returns-else-k-numbering-clause-is
returns-else-k-numbering-clause-is c = λ e at.
    let within = slice_get_within c.args.numbering.now.entries.now c.args.k e at in let long = c.requires.numbers.long in let past = c.if-k-numbering.false in absurd (omega arith)
