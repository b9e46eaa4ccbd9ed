use Rattle.ps_checker.proofs.Lawful.{keeps_skeletons}
use Rattle.ps_model.specs.Meaning.{nothing}
use Rattle.ps_top.proofs.Safe.{safe_scans}
use Rattle.ps_top.proofs.laws.lines_keep_skeletons.Goals as goal

pub returns : goal.returns
returns c = λ source net items ws flows runs. safe_scans net (keeps_skeletons net flows.1) nothing items ws runs
