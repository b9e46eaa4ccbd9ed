use Rattle.std.proofs.Common.{◌-◌}
use Rattle.ps_lexer.proofs.time.+parts.Given as goal

abbrev pub decreases-parts : goal.decreases-parts
decreases-parts l = 5 - l.least
