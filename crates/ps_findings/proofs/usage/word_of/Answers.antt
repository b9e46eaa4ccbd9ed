use Rattle.std.proofs.Common.{ap}
use Rattle.std.specs.Option.{option_copied}
use Rattle.ps_findings.proofs.Usages.{no_word}
use Rattle.ps_findings.proofs.usage.word_of.Goals as goal

pub returns-in-None : goal.returns-in-None
returns-in-None c = no_word c.args.row.now c.args.number (option_copied c.word_at.result) c.word_at.ensures (ap option_copied c.in-None.is)
