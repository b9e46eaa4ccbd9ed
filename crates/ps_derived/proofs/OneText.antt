-- Tokens spell one whole text, or have one refusal.
use Rattle.std.proofs.Common.{◌≡◌, ◌≢◌, Result, Err}
use Rattle.ps_base.specs.declared.failing.Fail.{Fail}
use Rattle.ps_base.specs.declared.failing.Fail.TheVariants.{Memory}
use Rattle.ps_base.specs.declared.limits.TheConstants.{MOST_GROUPS}
use Rattle.ps_lexer.specs.declared.token.Tokens.{Tokens}
use Rattle.ps_parser.specs.Language.{Answers}
use Rattle.ps_parser.proofs.OneAnswer as of_tokens
use Rattle.ps_parser.proofs.OneAnswer.{IsToldBySpelling}
use Rattle.ps_derived.specs.declared.library.Library.{Library}
use Rattle.ps_derived.specs.Texts.{libraries}
use Rattle.ps_derived.proofs.Fronts.{one_spelling}

spelling_tells_library : IsToldBySpelling libraries
spelling_tells_library = one_spelling MOST_GROUPS

pub one_answer : (tokens : Tokens) (r q : Result Library Fail) → Answers libraries tokens r → Answers libraries tokens q → r ≢ Err Memory → q ≢ Err Memory → r ≡ q
one_answer = of_tokens.one_answer libraries spelling_tells_library
