use Rattle.ps_base.specs.declared.limits.TheConstants.{MOST_GROUPS}
use Rattle.ps_parser.specs.declared.sign.Sign.TheVariants.{LeftBracket, Dot}
use Rattle.ps_parser.specs.declared.statement.Target.TheVariants as target
use Rattle.ps_parser.specs.SumView.{sum_tree}
use Rattle.ps_parser.specs.Tree.{Call, Assign as Assigned}
use Rattle.ps_parser.specs.Grammar.{a_name, a_value, pin_end, call_end, a_statement, statement_parts}
use Rattle.ps_parser.proofs.Signs.{not_next}
use Rattle.ps_parser.proofs.Joints.{in_first, in_second, in_seen, reads_both, reads_as}
use Rattle.ps_parser.proofs.Sentences.{statement_twin, statement_joint}
use Rattle.ps_parser.proofs.Tails.{pin_refuses, pin_reads, call_refuses, call_reads, value_refuses, value_reads}
use Rattle.ps_parser.proofs.Reading.{exit}
use Rattle.ps_parser.proofs.read_statement.statement.Goals as goal

pub returns-in_err-first : goal.returns-in_err-first
returns-in_err-first c =
    let n = MOST_GROUPS in
    exit a_name a_statement n n _ _ (λ f l h. in_seen statement_twin n _ f l (in_first statement_joint n _ f l h)) _ _ _ _ c.from_residual.ensures.1 (c.in_err-first.ensures n)

pub returns-in_err-pin : goal.returns-in_err-pin
returns-in_err-pin c =
    let n = MOST_GROUPS in
    exit pin_end a_statement n n _ _ (λ f l h. in_seen statement_twin n _ f l (in_second statement_joint n _ _ _ (c.in_ok-first.ensures n) f l (pin_refuses n _ _ c.in-Some.ensures.found f l h))) _ _ _ _ c.from_residual-in_err-pin.ensures.1 c.in_err-pin.ensures

pub returns-in-Some : goal.returns-in-Some
returns-in-Some c =
    let n = MOST_GROUPS in
    reads_as statement_parts n _ _ (Assigned (target.Pin c.in_ok-first.first c.in_ok-pin.pin) (sum_tree c.in_ok-pin.value)) (reads_both statement_joint n _ _ _ _ _ (c.in_ok-first.ensures n) (pin_reads n _ _ _ _ c.in-Some.ensures.found c.in_ok-pin.ensures))

pub returns-in_err-arguments : goal.returns-in_err-arguments
returns-in_err-arguments c =
    let n = MOST_GROUPS in
    exit call_end a_statement n n _ _ (λ f l h. in_seen statement_twin n _ f l (in_second statement_joint n _ _ _ (c.in_ok-first.ensures n) f l (call_refuses n _ _ c.in-Some-behind.ensures.found f l h))) _ _ _ _ c.from_residual-in_err-arguments.ensures.1 c.in_err-arguments.ensures

pub returns-in-Some-behind : goal.returns-in-Some-behind
returns-in-Some-behind c =
    let n = MOST_GROUPS in
    reads_as statement_parts n _ _ (Call c.in_ok-first.first c.in_ok-arguments.arguments) (reads_both statement_joint n _ _ _ _ _ (c.in_ok-first.ensures n) (call_reads n _ _ _ _ c.in-Some-behind.ensures.found c.in_ok-arguments.ensures))

pub returns-in_err-value : goal.returns-in_err-value
returns-in_err-value c =
    let n = MOST_GROUPS in
    exit a_value a_statement n n _ _ (λ f l h. in_seen statement_twin n _ f l (in_second statement_joint n _ _ _ (c.in_ok-first.ensures n) f l (value_refuses n _ (not_next Dot _ c.in_default.ensures.none) (not_next LeftBracket _ c.in_default-behind.ensures.none) f l h))) _ _ _ _ c.from_residual-in_err-value.ensures.1 c.in_err-value.ensures

pub returns : goal.returns
returns c =
    let n = MOST_GROUPS in
    reads_as statement_parts n _ _ (Assigned (target.Name c.in_ok-first.first) (sum_tree c.in_ok-value.value)) (reads_both statement_joint n _ _ _ _ _ (c.in_ok-first.ensures n) (value_reads n _ _ _ c.in_ok-value.ensures))
