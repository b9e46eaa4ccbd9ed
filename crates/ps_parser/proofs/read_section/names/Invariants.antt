use Rattle.std.proofs.Common.{◌<◌, ◌∷◌, length}
use Rattle.ps_base.specs.declared.limits.TheConstants.{MOST_GROUPS}
use Rattle.ps_parser.specs.declared.sign.Sign.TheVariants.{Comma}
use Rattle.ps_parser.specs.Symbol.{Mark, symbols}
use Rattle.ps_parser.specs.Phrase.{behind}
use Rattle.ps_parser.specs.Grammar.{a_name}
use Rattle.ps_parser.proofs.Phrases.{ReadsSome}
use Rattle.ps_parser.proofs.read_section.names.Given as goal

abbrev pub invariant-each : goal.invariant-each
invariant-each l = record {
  some : 0 < length l.names;
  reads : ReadsSome (behind (Mark Comma) a_name) MOST_GROUPS (Mark Comma ∷ symbols l.tokens) l.names (symbols l.rest);
}

abbrev pub decreases-each : goal.decreases-each
decreases-each l = length l.rest
