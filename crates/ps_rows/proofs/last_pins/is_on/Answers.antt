use Rattle.ps_rows.proofs.LastPins.{pin_test_is}
use Rattle.ps_rows.proofs.last_pins.is_on.Goals as goal

pub returns : goal.returns
returns c = λ j e. pin_test_is j c.args.bits c.args.pin e
