use Rattle.ps_world.proofs.Down.{stays_down}
use Rattle.ps_world.proofs.laws.stays_down.Goals as goal

pub returns : goal.returns
returns c m = stays_down m
