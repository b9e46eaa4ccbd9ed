use Rattle.std.proofs.Common.{refl}
use Rattle.std.specs.Fmt.{digits}
use Rattle.ps_load.specs.Texts.{app_text}
use Rattle.ps_load.proofs.texts.app.Goals as goal

pub returns : goal.returns
unfolding app_text digits
returns c = refl
