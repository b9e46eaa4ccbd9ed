use Rattle.std.proofs.Common.{sym}
use Rattle.ps_parser.specs.Symbol.{is_named}
use Rattle.ps_parser.proofs.Rows.{next_stops}
use Rattle.ps_parser.proofs.peek.is_name_next.Goals as goal

pub returns-in-None : goal.returns-in-None
returns-in-None c = sym (next_stops is_named _ c.in-None.ensures.none)
