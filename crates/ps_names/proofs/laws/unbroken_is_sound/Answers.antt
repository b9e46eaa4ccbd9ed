use Rattle.ps_parser.specs.Names.{IsDottedName}
use Rattle.ps_names.proofs.Whole.{network_is_sound}
use Rattle.ps_names.proofs.laws.unbroken_is_sound.Goals as goal

pub returns : goal.returns
returns c = λ p source clean. network_is_sound IsDottedName p clean source.whole source.shallow
