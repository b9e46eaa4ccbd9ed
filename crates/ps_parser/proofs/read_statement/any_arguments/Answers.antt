use Rattle.ps_base.specs.declared.limits.TheConstants.{MOST_GROUPS}
use Rattle.std.proofs.Common.{sym}
use Rattle.ps_parser.specs.Symbol.{is_named}
use Rattle.ps_parser.specs.Grammar.{arguments, any_arguments}
use Rattle.ps_parser.proofs.Choices.{refuses_present, reads_present}
use Rattle.ps_parser.proofs.Sentences.{open_arguments, some_argument}
use Rattle.ps_parser.proofs.Rows.{first_next}
use Rattle.ps_parser.proofs.Reading.{parses_as}
use Rattle.ps_parser.proofs.read_statement.any_arguments.Goals as goal

pub returns-then-is_name_next : goal.returns-then-is_name_next
returns-then-is_name_next c =
    let n = MOST_GROUPS in
    parses_as arguments any_arguments n _ (refuses_present arguments is_named open_arguments some_argument n _ (first_next is_named _ (sym c.if-is_name_next.ensures))) (λ x rest h. reads_present arguments is_named open_arguments some_argument n _ rest x h) _ _ _ c.some_arguments.ensures
