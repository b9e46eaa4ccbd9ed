use Rattle.ps_base.specs.declared.limits.TheConstants.{MOST_GROUPS}
use Rattle.ps_parser.specs.declared.sign.Sign.TheVariants.{Colon, Semicolon}
use Rattle.ps_parser.specs.Symbol.{Mark}
use Rattle.ps_parser.specs.Phrase.{just}
use Rattle.ps_parser.specs.Grammar.{a_name, names, a_declaration, declaration_parts}
use Rattle.ps_parser.proofs.Joints.{in_first, in_second, in_seen, reads_both, reads_as}
use Rattle.ps_parser.proofs.Sentences.{declaration_twin, declaration_joint, names_end_joint, type_end_joint}
use Rattle.ps_parser.proofs.Reading.{exit}
use Rattle.ps_parser.proofs.read_section.declaration.Goals as goal

pub returns-in_err-names : goal.returns-in_err-names
returns-in_err-names c =
    let n = MOST_GROUPS in
    exit names a_declaration n n _ _ (λ f l h. in_seen declaration_twin n _ f l (in_first declaration_joint n _ f l h)) _ _ _ _ c.from_residual.ensures.1 c.in_err-names.ensures

pub returns-in_err-rest : goal.returns-in_err-rest
returns-in_err-rest c =
    let n = MOST_GROUPS in
    exit (just (Mark Colon)) a_declaration n n _ _ (λ f l h. in_seen declaration_twin n _ f l (in_second declaration_joint n _ _ _ c.in_ok-names.ensures f l (in_first names_end_joint n _ f l h))) _ _ _ _ c.from_residual-in_err-rest.ensures.1 (c.in_err-rest.ensures n)

pub returns-in_err-ty : goal.returns-in_err-ty
returns-in_err-ty c =
    let n = MOST_GROUPS in
    let r1 = c.in_ok-rest.ensures n in
    exit a_name a_declaration n n _ _ (λ f l h. in_seen declaration_twin n _ f l (in_second declaration_joint n _ _ _ c.in_ok-names.ensures f l (in_second names_end_joint n _ _ _ r1 f l (in_first type_end_joint n _ f l h)))) _ _ _ _ c.from_residual-in_err-ty.ensures.1 (c.in_err-ty.ensures n)

pub returns-in_err-rest-2 : goal.returns-in_err-rest-2
returns-in_err-rest-2 c =
    let n = MOST_GROUPS in
    let r1 = c.in_ok-rest.ensures n in
    let r2 = c.in_ok-ty.ensures n in
    exit (just (Mark Semicolon)) a_declaration n n _ _ (λ f l h. in_seen declaration_twin n _ f l (in_second declaration_joint n _ _ _ c.in_ok-names.ensures f l (in_second names_end_joint n _ _ _ r1 f l (in_second type_end_joint n _ _ _ r2 f l h)))) _ _ _ _ c.from_residual-in_err-rest-2.ensures.1 (c.in_err-rest-2.ensures n)

pub returns : goal.returns
returns c =
    let n = MOST_GROUPS in
    reads_as declaration_parts n _ _ _ (reads_both declaration_joint n _ _ _ _ _ c.in_ok-names.ensures
    (reads_both names_end_joint n _ _ _ _ _ (c.in_ok-rest.ensures n) (reads_both type_end_joint n _ _ _ _ _ (c.in_ok-ty.ensures n) (c.in_ok-rest-2.ensures n))))
