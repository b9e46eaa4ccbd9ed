use Rattle.ps_base.specs.declared.limits.TheConstants.{MOST_GROUPS}
use Rattle.ps_parser.specs.declared.sign.Sign.TheVariants.{EndVar}
use Rattle.ps_parser.specs.Symbol.{Mark}
use Rattle.ps_parser.specs.Phrase.{just}
use Rattle.ps_parser.specs.Grammar.{declarations, a_section, section_parts}
use Rattle.ps_parser.proofs.Joints.{in_first, in_second, in_seen, reads_both, reads_as}
use Rattle.ps_parser.proofs.Sentences.{section_twin, section_joint, section_end_joint, reads_part, refuses_part}
use Rattle.ps_parser.proofs.Reading.{exit}
use Rattle.ps_parser.proofs.read_section.section.Goals as goal

pub returns-in_default : goal.returns-in_default
returns-in_default c = let n = MOST_GROUPS in in_seen section_twin n _ _ _ (in_first section_joint n _ _ _ (refuses_part n _ c.in_default.ensures.none))

pub returns-in_err-declarations : goal.returns-in_err-declarations
returns-in_err-declarations c =
    let n = MOST_GROUPS in
    let r0 = reads_part n _ _ _ c.in-Some.ensures.found in
    exit declarations a_section n n _ _ (λ f l h. in_seen section_twin n _ f l (in_second section_joint n _ _ _ r0 f l (in_first section_end_joint n _ f l h))) _ _ _ _ c.from_residual.ensures.1 c.in_err-declarations.ensures

pub returns-in_err-rest : goal.returns-in_err-rest
returns-in_err-rest c =
    let n = MOST_GROUPS in
    let r0 = reads_part n _ _ _ c.in-Some.ensures.found in
    exit (just (Mark EndVar)) a_section n n _ _ (λ f l h. in_seen section_twin n _ f l (in_second section_joint n _ _ _ r0 f l (in_second section_end_joint n _ _ _ c.in_ok-declarations.ensures f l h))) _ _ _ _ c.from_residual-in_err-rest.ensures.1 (c.in_err-rest.ensures n)

pub returns : goal.returns
returns c =
    let n = MOST_GROUPS in
    let r0 = reads_part n _ _ _ c.in-Some.ensures.found in
    reads_as section_parts n _ _ _ (reads_both section_joint n _ _ _ _ _ r0 (reads_both section_end_joint n _ _ _ _ _ c.in_ok-declarations.ensures (c.in_ok-rest.ensures n)))
