use Rattle.ps_base.specs.declared.limits.TheConstants.{MOST_GROUPS}
use Rattle.ps_parser.specs.declared.sign.Sign.TheVariants.{RightBracket, Semicolon}
use Rattle.ps_parser.specs.Symbol.{Mark}
use Rattle.ps_parser.specs.Phrase.{just}
use Rattle.ps_parser.specs.Grammar.{any_arguments, call_end}
use Rattle.ps_parser.proofs.Joints.{in_first, in_second, reads_both}
use Rattle.ps_parser.proofs.Sentences.{call_end_joint, call_close_joint}
use Rattle.ps_parser.proofs.Reading.{exit}
use Rattle.ps_parser.proofs.read_statement.call_end.Goals as goal

pub returns-in_err-arguments : goal.returns-in_err-arguments
returns-in_err-arguments c =
    let n = MOST_GROUPS in
    exit any_arguments call_end n n _ _ (in_first call_end_joint n _) _ _ _ _ c.from_residual.ensures.1 c.in_err-arguments.ensures

pub returns-in_err-rest : goal.returns-in_err-rest
returns-in_err-rest c =
    let n = MOST_GROUPS in
    exit (just (Mark RightBracket)) call_end n n _ _ (λ f l h. in_second call_end_joint n _ _ _ c.in_ok-arguments.ensures f l (in_first call_close_joint n _ f l h)) _ _ _ _ c.from_residual-in_err-rest.ensures.1 (c.in_err-rest.ensures n)

pub returns-in_err-rest-2 : goal.returns-in_err-rest-2
returns-in_err-rest-2 c =
    let n = MOST_GROUPS in
    let r1 = c.in_ok-rest.ensures n in
    exit (just (Mark Semicolon)) call_end n n _ _ (λ f l h. in_second call_end_joint n _ _ _ c.in_ok-arguments.ensures f l (in_second call_close_joint n _ _ _ r1 f l h)) _ _ _ _ c.from_residual-in_err-rest-2.ensures.1 (c.in_err-rest-2.ensures n)

pub returns : goal.returns
returns c =
    let n = MOST_GROUPS in
    reads_both call_end_joint n _ _ _ _ _ c.in_ok-arguments.ensures (reads_both call_close_joint n _ _ _ _ _ (c.in_ok-rest.ensures n) (c.in_ok-rest-2.ensures n))
