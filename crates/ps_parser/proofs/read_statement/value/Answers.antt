use Rattle.ps_base.specs.declared.limits.TheConstants.{MOST_GROUPS}
use Rattle.ps_parser.specs.declared.sign.Sign.TheVariants.{Assign, Semicolon}
use Rattle.ps_parser.specs.Symbol.{Mark}
use Rattle.ps_parser.specs.Phrase.{just}
use Rattle.ps_parser.specs.Grammar.{a_sum, a_value, value_parts}
use Rattle.ps_parser.proofs.Joints.{in_first, in_second, in_seen, reads_both, reads_as}
use Rattle.ps_parser.proofs.Sentences.{value_twin, value_joint, value_end_joint}
use Rattle.ps_parser.proofs.Reading.{exit}
use Rattle.ps_parser.proofs.read_statement.value.Goals as goal

pub returns-in_err-rest : goal.returns-in_err-rest
returns-in_err-rest c =
    let n = MOST_GROUPS in
    exit (just (Mark Assign)) a_value n n _ _ (λ f l h. in_seen value_twin n _ f l (in_first value_joint n _ f l h)) _ _ _ _ c.from_residual.ensures.1 (c.in_err-rest.ensures n)

pub returns-in_err-value : goal.returns-in_err-value
returns-in_err-value c =
    let n = MOST_GROUPS in
    let r0 = c.in_ok-rest.ensures n in
    exit a_sum a_value n n _ _ (λ f l h. in_seen value_twin n _ f l (in_second value_joint n _ _ _ r0 f l (in_first value_end_joint n _ f l h))) _ _ _ _ c.from_residual-in_err-value.ensures.1 c.in_err-value.ensures

pub returns-in_err-rest-2 : goal.returns-in_err-rest-2
returns-in_err-rest-2 c =
    let n = MOST_GROUPS in
    let r0 = c.in_ok-rest.ensures n in
    exit (just (Mark Semicolon)) a_value n n _ _ (λ f l h. in_seen value_twin n _ f l (in_second value_joint n _ _ _ r0 f l (in_second value_end_joint n _ _ _ c.in_ok-value.ensures f l h))) _ _ _ _ c.from_residual-in_err-rest-2.ensures.1 (c.in_err-rest-2.ensures n)

pub returns : goal.returns
returns c =
    let n = MOST_GROUPS in
    reads_as value_parts n _ _ _ (reads_both value_joint n _ _ _ _ _ (c.in_ok-rest.ensures n) (reads_both value_end_joint n _ _ _ _ _ c.in_ok-value.ensures (c.in_ok-rest-2.ensures n)))
