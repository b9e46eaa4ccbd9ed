use Rattle.ps_machine.proofs.KindsByNumber.{found_is}
use Rattle.ps_machine.proofs.calls.kind_by_number.Goals as goal

pub returns : goal.returns
returns c = found_is c.kind_numbered.result c.args.number c.kind_numbered.ensures.some c.kind_numbered.ensures.none
