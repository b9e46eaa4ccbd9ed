use Rattle.std.proofs.Common.{sym}
use Rattle.ps_parser.specs.Grammar.{is_part}
use Rattle.ps_parser.proofs.Rows.{next_stops}
use Rattle.ps_parser.proofs.peek.is_part_next.Goals as goal

pub returns-in-None : goal.returns-in-None
returns-in-None c = sym (next_stops is_part _ c.in-None.ensures.none)
