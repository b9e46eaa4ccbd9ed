use Rattle.std.proofs.Common.{length}
use Rattle.ps_base.specs.declared.limits.TheConstants.{MOST_GROUPS}
use Rattle.ps_parser.specs.Symbol.{symbols}
use Rattle.ps_parser.specs.Grammar.{a_statement}
use Rattle.ps_parser.proofs.Phrases.{ReadsSome}
use Rattle.ps_parser.proofs.read_statement.statements.Given as goal

abbrev pub invariant-each : goal.invariant-each
invariant-each l = ReadsSome a_statement MOST_GROUPS (symbols l.tokens) l.statements (symbols l.rest)

abbrev pub decreases-each : goal.decreases-each
decreases-each l = length l.rest
