use Rattle.ps_lexer.proofs.Times.{split_of}
use Rattle.ps_lexer.proofs.time.split_part.Goals as goal

pub returns : goal.returns
returns c =
    let a = c.split_at.ensures in let b = c.split_at-2.ensures in let d = c.digits_len.ensures in let l = c.letters_len.ensures in
    split_of c.args.bytes.now _ c.split_at.result.1.now _ _ c.digits_len.result c.letters_len.result d.within l.within a.front a.back b.front b.back d.digits d.stops l.letters l.stops a.by_index.0 b.by_index.0
