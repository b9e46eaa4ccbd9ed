use Rattle.ps_rows.proofs.Viewing.{behind_is}
use Rattle.ps_rows.proofs.view.behind_pins.Goals as goal

pub returns : goal.returns
returns c = behind_is c.args.bits c.args.count c.args.others c.requires.few c.requires.small
