use Rattle.std.proofs.Common.{[], ◌∷◌, ◌++◌, ◌∙◌, length, sym, ap, subst, arith, length-append}
use Rattle.ps_base.specs.declared.limits.TheConstants.{MOST_GROUPS}
use Rattle.ps_parser.specs.declared.sign.Sign.TheVariants.{Comma}
use Rattle.ps_parser.specs.Symbol.{Mark, symbols}
use Rattle.ps_parser.specs.ArgumentView.{argument_tree}
use Rattle.ps_parser.specs.Phrase.{behind}
use Rattle.ps_parser.specs.Grammar.{an_argument, arguments}
use Rattle.ps_parser.proofs.Phrases.{ReadsSome}
use Rattle.ps_parser.proofs.Rows.{arguments_start, arguments_more, arguments_read, arguments_refuse_first, arguments_refuse}
use Rattle.ps_parser.proofs.Reading.{exit, rest_is_shorter}
use Rattle.ps_parser.proofs.read_statement.some_arguments.Goals as goal

pub returns-in_err-first : goal.returns-in_err-first
returns-in_err-first c =
    let n = MOST_GROUPS in
    exit an_argument arguments n n _ _ (arguments_refuse_first n _) _ _ _ _ c.from_residual.ensures.1 c.in_err-first.ensures

pub returns-in_err-next : goal.returns-in_err-next
returns-in_err-next c =
    let n = MOST_GROUPS in
    exit an_argument arguments n n _ _ (arguments_refuse n _ _ _ _ c.each.invariant.reads c.in-Some.ensures.found) _ _ _ _ c.from_residual-in_err-next.ensures.1 c.in_err-next.ensures

pub each-init : goal.each-init
each-init c =
    let n = MOST_GROUPS in
    let pushed = c.in_ok-push.ensures ∙ ap (λ l. l ++ argument_tree c.in_ok-first.first ∷ []) c.new-arguments.ensures in
    record {
      some = omega (arith, ap length pushed);
      reads = subst (λ xs. ReadsSome (behind (Mark Comma) an_argument) n (Mark Comma ∷ symbols c.args.tokens.now) xs (symbols c.in_ok-first.rest.now)) (sym pushed) (arguments_start n _ _ _ c.in_ok-first.ensures);
    }

pub each-smaller : goal.each-smaller
each-smaller c = let n = MOST_GROUPS in rest_is_shorter _ _ _ _ (an_argument.spell (argument_tree c.in_ok-next.next)) c.in-Some.ensures.found c.in_ok-next.ensures.spelled

pub each-preserved : goal.each-preserved
each-preserved c =
    let n = MOST_GROUPS in
    let pushed = c.in_ok-push-2.ensures in
    record {
      some = omega (arith, ap length pushed, length-append c.each.arguments (argument_tree c.in_ok-next.next ∷ []));
      reads = subst (λ xs. ReadsSome (behind (Mark Comma) an_argument) n (Mark Comma ∷ symbols c.args.tokens.now) xs (symbols c.in_ok-next.left.now)) (sym pushed)
          (arguments_more n _ _ _ _ _ _ c.each.invariant.reads c.in-Some.ensures.found c.in_ok-next.ensures);
    }

pub returns : goal.returns
returns c = arguments_read MOST_GROUPS _ _ _ c.each.invariant.some c.each.invariant.reads c.in_default.ensures.none
