use Rattle.std.proofs.Common.{ℕ, ◌-◌, List, subst}
use Rattle.ps_lexer.specs.declared.token.Token.{Token}
use Rattle.ps_lsp_text.specs.Calls.{IsBracketBefore}
use Rattle.ps_lsp_text.specs.Declaring.{IsInstance}
use Rattle.ps_lsp_text.proofs.OpenBrackets.{one_bracket}
use Rattle.ps_lsp_text.proofs.sight.Sight.call_before.Goals as goal

pub returns-in-None-clause-none : goal.returns-in-None-clause-none
returns-in-None-clause-none c = λ bracket kind call.
    let today = c.args.self.now.today in
    let this = c.in_ok-bracket.bracket in
    let open_here = subst (λ (l : List Token). IsBracketBefore l c.args.at this) c.today.ensures c.in_ok-bracket.ensures.some in
    c.in-None.ensures.none kind
    (subst (λ (k : ℕ). IsInstance today c.args.self.now.earlier (k - 1) kind) (one_bracket today c.args.at bracket this call.is_open open_here) call.instance)
