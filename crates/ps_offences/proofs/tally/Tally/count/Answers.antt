use Rattle.ps_offences.proofs.Tallying.{counted_again, counted_new}
use Rattle.ps_offences.proofs.tally.Tally.count.Goals as goal

pub returns-in_ok-enter : goal.returns-in_ok-enter
returns-in_ok-enter c = λ ns has.
    counted_again c.args.self.now ns c.args.name.now has c.enter.new.self c.enter-then-was.new.self 0 0 c.in_ok-was.was' c.in_ok-was.ensures.was c.if-was.true c.in_ok-was.ensures.is c.in_ok-enter.ensures.is

pub returns-else-was : goal.returns-else-was
returns-else-was c = λ ns has.
    counted_new c.args.self.now ns c.args.name.now has c.enter.new.self 0 c.in_ok-was.was' c.in_ok-was.ensures.was c.if-was.false c.in_ok-was.ensures.is
