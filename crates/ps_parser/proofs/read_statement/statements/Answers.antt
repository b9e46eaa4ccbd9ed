use Rattle.std.proofs.Common.{sym, subst}
use Rattle.ps_base.specs.declared.limits.TheConstants.{MOST_GROUPS}
use Rattle.ps_parser.specs.Symbol.{symbols, is_named}
use Rattle.ps_parser.specs.Grammar.{a_statement, statements}
use Rattle.ps_parser.proofs.Phrases.{ReadsSome}
use Rattle.ps_parser.proofs.Sentences.{statement_starts, statement_law}
use Rattle.ps_parser.proofs.Rows.{many_more, many_read, many_refuse, many_smaller}
use Rattle.ps_parser.proofs.Reading.{exit}
use Rattle.ps_parser.proofs.read_statement.statements.Goals as goal

pub returns-in_err-next : goal.returns-in_err-next
returns-in_err-next c =
    let n = MOST_GROUPS in
    exit a_statement statements n n _ _ (many_refuse a_statement is_named statement_starts statement_law n _ _ _ c.each.invariant (sym c.each-test.ensures)) _ _ _ _ c.from_residual.ensures.1 c.in_err-next.ensures

pub each-smaller : goal.each-smaller
each-smaller c = many_smaller a_statement is_named statement_starts statement_law MOST_GROUPS _ _ _ c.in_ok-next.ensures

pub each-preserved : goal.each-preserved
each-preserved c =
    subst (λ xs. ReadsSome a_statement MOST_GROUPS (symbols c.args.tokens.now) xs (symbols c.in_ok-next.left.now)) (sym c.in_ok-push.ensures)
    (many_more a_statement is_named statement_starts statement_law MOST_GROUPS _ _ _ _ _ c.each.invariant c.in_ok-next.ensures)

pub returns : goal.returns
returns c = many_read a_statement is_named statement_starts statement_law MOST_GROUPS _ _ _ c.each.invariant (sym c.each-test.ensures)
