use Rattle.std.proofs.Common.{not, ap, sym, ◌∙◌, refl, arith, length}
use Rattle.ps_lexer.specs.declared.token.Token.{Token}
use Rattle.ps_lsp_text.specs.Completing.{begins_before}
use Rattle.ps_lsp_text.proofs.AtTokens.{first_here, none_first}
use Rattle.ps_lsp_text.proofs.looking.tokens_before.Goals as goal

pub returns-then-not-is_before : goal.returns-then-not-is_before
returns-then-not-is_before c =
    first_here (λ (t : Token). not (begins_before c.args.place t)) c.args.tokens.now c.loop-i.i c.index-tokens-i.result (omega arith) c.index-tokens-i.is c.loop-i.invariant
    (ap not (sym c.is_before.ensures ∙ c.if-not-is_before.true))

pub returns : goal.returns
returns c = none_first (λ (t : Token). not (begins_before c.args.place t)) c.args.tokens.now c.loop-i.i (omega arith) c.loop-i.invariant (length c.args.tokens.now) refl
