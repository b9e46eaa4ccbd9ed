use Rattle.std.proofs.Common.{length}
use Rattle.ps_base.specs.declared.limits.TheConstants.{MOST_GROUPS}
use Rattle.ps_parser.specs.Symbol.{symbols}
use Rattle.ps_parser.specs.Grammar.{a_section}
use Rattle.ps_parser.proofs.Phrases.{ReadsSome}
use Rattle.ps_parser.proofs.read_section.sections.Given as goal

abbrev pub invariant-each : goal.invariant-each
invariant-each l = ReadsSome a_section MOST_GROUPS (symbols l.tokens) l.sections (symbols l.rest)

abbrev pub decreases-each : goal.decreases-each
decreases-each l = length l.rest
