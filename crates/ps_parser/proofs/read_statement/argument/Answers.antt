use Rattle.ps_base.specs.declared.limits.TheConstants.{MOST_GROUPS}
use Rattle.ps_parser.specs.declared.sign.Sign.TheVariants.{Assign}
use Rattle.ps_parser.specs.Symbol.{Mark}
use Rattle.ps_parser.specs.Phrase.{just}
use Rattle.ps_parser.specs.Grammar.{a_name, a_sum, an_argument, argument_parts}
use Rattle.ps_parser.proofs.Joints.{in_first, in_second, in_seen, reads_both, reads_as}
use Rattle.ps_parser.proofs.Sentences.{argument_twin, argument_joint, argument_end_joint}
use Rattle.ps_parser.proofs.Reading.{exit}
use Rattle.ps_parser.proofs.read_statement.argument.Goals as goal

pub returns-in_err-pin : goal.returns-in_err-pin
returns-in_err-pin c =
    let n = MOST_GROUPS in
    exit a_name an_argument n n _ _ (λ f l h. in_seen argument_twin n _ f l (in_first argument_joint n _ f l h)) _ _ _ _ c.from_residual.ensures.1 (c.in_err-pin.ensures n)

pub returns-in_err-rest : goal.returns-in_err-rest
returns-in_err-rest c =
    let n = MOST_GROUPS in
    let r0 = c.in_ok-pin.ensures n in
    exit (just (Mark Assign)) an_argument n n _ _ (λ f l h. in_seen argument_twin n _ f l (in_second argument_joint n _ _ _ r0 f l (in_first argument_end_joint n _ f l h))) _ _ _ _ c.from_residual-in_err-rest.ensures.1 (c.in_err-rest.ensures n)

pub returns-in_err-value : goal.returns-in_err-value
returns-in_err-value c =
    let n = MOST_GROUPS in
    let r0 = c.in_ok-pin.ensures n in
    let r1 = c.in_ok-rest.ensures n in
    exit a_sum an_argument n n _ _ (λ f l h. in_seen argument_twin n _ f l (in_second argument_joint n _ _ _ r0 f l (in_second argument_end_joint n _ _ _ r1 f l h))) _ _ _ _ c.from_residual-in_err-value.ensures.1 c.in_err-value.ensures

pub returns : goal.returns
returns c =
    let n = MOST_GROUPS in
    reads_as argument_parts n _ _ _ (reads_both argument_joint n _ _ _ _ _ (c.in_ok-pin.ensures n) (reads_both argument_end_joint n _ _ _ _ _ (c.in_ok-rest.ensures n) c.in_ok-value.ensures))
