use Rattle.ps_lexer.proofs.Found.{read_sign, read_none}
use Rattle.ps_lexer.proofs.scanner.piece_at.Goals as goal

pub returns-in-Some-sign : goal.returns-in-Some-sign
returns-in-Some-sign c =
    read_sign c.args.text.now c.args.i _ _ c.requires c.byte_at-b.ensures c.byte_at-next.ensures _ _ c.if-begins_name.ensures c.if-opens_block.ensures c.if-opens_line.ensures c.in-Some-sign.ensures

pub returns-in-None-sign : goal.returns-in-None-sign
returns-in-None-sign c =
    read_none c.args.text.now c.args.i _ _ c.requires c.byte_at-b.ensures c.byte_at-next.ensures c.if-is_blank.ensures c.if-begins_name.ensures c.if-opens_block.ensures c.if-opens_line.ensures c.in-None-sign.ensures
