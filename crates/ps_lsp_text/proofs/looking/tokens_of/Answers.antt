use Rattle.std.proofs.Common.{refl}
use Rattle.ps_lsp_text.proofs.ShownTokens.{shown_whole, shown_refused}
use Rattle.ps_lsp_text.proofs.looking.tokens_of.Goals as goal

pub returns-in-Ok : goal.returns-in-Ok
returns-in-Ok c = shown_whole c.args.text.now c.lex.result c.in-Ok.field-0 _ c.in-Ok.is refl c.lex.ensures

pub returns-in-Err-Refused : goal.returns-in-Err-Refused
returns-in-Err-Refused c =
    shown_refused c.args.text.now c.lex.result c.in-Err-Refused.refusal c.bytes_before.result c.tokens_or_none.result (cc) c.lex.ensures c.bytes_before.ensures.place c.tokens_or_none.ensures.are
