use Rattle.std.proofs.Common.{[], ◌∷◌, ◌++◌, ◌∙◌, length, sym, ap, subst, arith, length-append}
use Rattle.ps_base.specs.declared.limits.TheConstants.{MOST_GROUPS}
use Rattle.ps_parser.specs.declared.sign.Sign.TheVariants.{Comma}
use Rattle.ps_parser.specs.Symbol.{Mark, symbols}
use Rattle.ps_parser.specs.Phrase.{behind}
use Rattle.ps_parser.specs.Grammar.{a_name, names}
use Rattle.ps_parser.proofs.Phrases.{ReadsSome}
use Rattle.ps_parser.proofs.Rows.{names_start, names_more, names_read, names_refuse_first, names_refuse}
use Rattle.ps_parser.proofs.Reading.{exit, rest_is_shorter}
use Rattle.ps_parser.proofs.read_section.names.Goals as goal

pub returns-in_err-first : goal.returns-in_err-first
returns-in_err-first c =
    let n = MOST_GROUPS in
    exit a_name names n n _ _ (names_refuse_first n _) _ _ _ _ c.from_residual.ensures.1 (c.in_err-first.ensures n)

pub returns-in_err-next : goal.returns-in_err-next
returns-in_err-next c =
    let n = MOST_GROUPS in
    exit a_name names n n _ _ (names_refuse n _ _ _ _ c.each.invariant.reads c.in-Some.ensures.found) _ _ _ _ c.from_residual-in_err-next.ensures.1 (c.in_err-next.ensures n)

pub each-init : goal.each-init
each-init c =
    let n = MOST_GROUPS in
    let pushed = c.in_ok-push.ensures ∙ ap (λ l. l ++ c.in_ok-first.first ∷ []) c.new-names.ensures in
    record {
      some = omega (arith, ap length pushed);
      reads = subst (λ xs. ReadsSome (behind (Mark Comma) a_name) n (Mark Comma ∷ symbols c.args.tokens.now) xs (symbols c.in_ok-first.rest.now)) (sym pushed) (names_start n _ _ _ (c.in_ok-first.ensures n));
    }

pub each-smaller : goal.each-smaller
each-smaller c = let n = MOST_GROUPS in rest_is_shorter _ _ _ _ (a_name.spell (c.in_ok-next.next)) c.in-Some.ensures.found (c.in_ok-next.ensures n).spelled

pub each-preserved : goal.each-preserved
each-preserved c =
    let n = MOST_GROUPS in
    let pushed = c.in_ok-push-2.ensures in
    record {
      some = omega (arith, ap length pushed, length-append c.each.names (c.in_ok-next.next ∷ []));
      reads = subst (λ xs. ReadsSome (behind (Mark Comma) a_name) n (Mark Comma ∷ symbols c.args.tokens.now) xs (symbols c.in_ok-next.left.now)) (sym pushed)
          (names_more n _ _ _ _ _ _ c.each.invariant.reads c.in-Some.ensures.found (c.in_ok-next.ensures n));
    }

pub returns : goal.returns
returns c = names_read MOST_GROUPS _ _ _ c.each.invariant.some c.each.invariant.reads c.in_default.ensures.none
