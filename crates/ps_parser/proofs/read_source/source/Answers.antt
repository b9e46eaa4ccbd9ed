use Rattle.ps_base.specs.declared.limits.TheConstants.{MOST_GROUPS}
use Rattle.std.proofs.Common.{subst}
use Rattle.ps_parser.specs.Symbol.{Mark, symbols}
use Rattle.ps_parser.specs.Spelt.{head_sign, foot_sign}
use Rattle.ps_parser.specs.Phrase.{Reads, just}
use Rattle.ps_parser.specs.Parses.{Stopped}
use Rattle.ps_parser.specs.Grammar.{a_name, sections, statements, a_source, source_parts}
use Rattle.ps_parser.proofs.Joints.{in_first, in_second, in_seen, reads_both, reads_as}
use Rattle.ps_parser.proofs.Sentences.{source_twin, source_joint, source_name_joint, source_body_joint, source_foot_joint}
use Rattle.ps_parser.proofs.Public.{source_kept}
use Rattle.ps_parser.proofs.Reading.{exit}
use Rattle.ps_parser.proofs.read_source.source.Goals as goal

pub returns-in_err-rest : goal.returns-in_err-rest
returns-in_err-rest c =
    let n = MOST_GROUPS in
    let h = c.args.heads in
    exit (just (Mark (head_sign h))) (a_source h) n n _ _ (λ f l r. in_seen source_twin n _ f l (in_first (source_joint h) n _ f l r)) _ _ _ _ c.from_residual.ensures.1
    (subst (λ s. Stopped (just (Mark s)) n (symbols c.args.tokens.now) c.in_err-rest.field-0.0) c.head.ensures (c.in_err-rest.ensures n))

pub returns-in_err-name : goal.returns-in_err-name
returns-in_err-name c =
    let n = MOST_GROUPS in
    let h = c.args.heads in
    let r0 : Reads (just (Mark (head_sign h))) n (symbols c.args.tokens.now) tt (symbols c.in_ok-rest.rest.now) = subst (λ s. Reads (just (Mark s)) n (symbols c.args.tokens.now) tt (symbols c.in_ok-rest.rest.now)) c.head.ensures (c.in_ok-rest.ensures n) in
    exit a_name (a_source h) n n _ _ (λ f l r. in_seen source_twin n _ f l (in_second (source_joint h) n _ _ _ r0 f l (in_first (source_name_joint h) n _ f l r))) _ _ _ _ c.from_residual-in_err-name.ensures.1 (c.in_err-name.ensures n)

pub returns-in_err-sections : goal.returns-in_err-sections
returns-in_err-sections c =
    let n = MOST_GROUPS in
    let h = c.args.heads in
    let r0 : Reads (just (Mark (head_sign h))) n (symbols c.args.tokens.now) tt (symbols c.in_ok-rest.rest.now) = subst (λ s. Reads (just (Mark s)) n (symbols c.args.tokens.now) tt (symbols c.in_ok-rest.rest.now)) c.head.ensures (c.in_ok-rest.ensures n) in
    let r1 = c.in_ok-name.ensures n in
    exit sections (a_source h) n n _ _ (λ f l r. in_seen source_twin n _ f l (in_second (source_joint h) n _ _ _ r0 f l (in_second (source_name_joint h) n _ _ _ r1 f l (in_first (source_body_joint h) n _ f l r)))) _ _ _ _ c.from_residual-in_err-sections.ensures.1 c.in_err-sections.ensures

pub returns-in_err-statements : goal.returns-in_err-statements
returns-in_err-statements c =
    let n = MOST_GROUPS in
    let h = c.args.heads in
    let r0 : Reads (just (Mark (head_sign h))) n (symbols c.args.tokens.now) tt (symbols c.in_ok-rest.rest.now) = subst (λ s. Reads (just (Mark s)) n (symbols c.args.tokens.now) tt (symbols c.in_ok-rest.rest.now)) c.head.ensures (c.in_ok-rest.ensures n) in
    let r1 = c.in_ok-name.ensures n in
    exit statements (a_source h) n n _ _ (λ f l r. in_seen source_twin n _ f l (in_second (source_joint h) n _ _ _ r0 f l (in_second (source_name_joint h) n _ _ _ r1 f l (in_second (source_body_joint h) n _ _ _ c.in_ok-sections.ensures f l (in_first (source_foot_joint h) n _ f l r))))) _ _ _ _ c.from_residual-in_err-statements.ensures.1 c.in_err-statements.ensures

pub returns-in_err-rest-2 : goal.returns-in_err-rest-2
returns-in_err-rest-2 c =
    let n = MOST_GROUPS in
    let h = c.args.heads in
    let r0 : Reads (just (Mark (head_sign h))) n (symbols c.args.tokens.now) tt (symbols c.in_ok-rest.rest.now) = subst (λ s. Reads (just (Mark s)) n (symbols c.args.tokens.now) tt (symbols c.in_ok-rest.rest.now)) c.head.ensures (c.in_ok-rest.ensures n) in
    let r1 = c.in_ok-name.ensures n in
    exit (just (Mark (foot_sign h))) (a_source h) n n _ _ (λ f l r. in_seen source_twin n _ f l (in_second (source_joint h) n _ _ _ r0 f l (in_second (source_name_joint h) n _ _ _ r1 f l (in_second (source_body_joint h) n _ _ _ c.in_ok-sections.ensures f l (in_second (source_foot_joint h) n _ _ _ c.in_ok-statements.ensures f l r))))) _ _ _ _ c.from_residual-in_err-rest-2.ensures.1
    (subst (λ s. Stopped (just (Mark s)) n (symbols c.in_ok-statements.rest.now) c.in_err-rest-2.field-0.0) c.foot.ensures (c.in_err-rest-2.ensures n))

reads_whole : (c : goal.In_ok-rest-2) → Reads (a_source c.args.heads) MOST_GROUPS (symbols c.args.tokens.now) (record { name = c.in_ok-name.name; sections = c.in_ok-sections.sections; statements = c.in_ok-statements.statements }) (symbols c.in_ok-rest-2.rest.now)
reads_whole c =
    let n = MOST_GROUPS in
    let h = c.args.heads in
    let r0 : Reads (just (Mark (head_sign h))) n (symbols c.args.tokens.now) tt (symbols c.in_ok-rest.rest.now) = subst (λ s. Reads (just (Mark s)) n (symbols c.args.tokens.now) tt (symbols c.in_ok-rest.rest.now)) c.head.ensures (c.in_ok-rest.ensures n) in
    let r4 : Reads (just (Mark (foot_sign h))) n (symbols c.in_ok-statements.rest.now) tt (symbols c.in_ok-rest-2.rest.now) = subst (λ s. Reads (just (Mark s)) n (symbols c.in_ok-statements.rest.now) tt (symbols c.in_ok-rest-2.rest.now)) c.foot.ensures (c.in_ok-rest-2.ensures n) in
    reads_as source_parts n _ _ (record { name = c.in_ok-name.name; sections = c.in_ok-sections.sections; statements = c.in_ok-statements.statements })
    (reads_both (source_joint h) n _ _ _ _ _ r0 (reads_both (source_name_joint h) n _ _ _ _ _ (c.in_ok-name.ensures n) (reads_both (source_body_joint h) n _ _ _ _ _ c.in_ok-sections.ensures (reads_both (source_foot_joint h) n _ _ _ _ _ c.in_ok-statements.ensures r4))))

pub invariant_of-source : goal.invariant_of-source
invariant_of-source c = source_kept c.args.heads _ _ _ c.requires (reads_whole c)

pub returns : goal.returns
returns c = reads_whole c
