use Rattle.ps_rows.proofs.LastPins.{last_off, last_on}
use Rattle.ps_rows.proofs.last_pins.may_keep.Goals as goal

pub returns-then-not-last : goal.returns-then-not-last
returns-then-not-last c = λ j e. last_off j c.args.last c.if-not-last.true

pub returns-else-not-last : goal.returns-else-not-last
returns-else-not-last c = λ j e. last_on j c.args.last c.args.pin c.if-not-last.false e
