use Rattle.ps_lexer.proofs.Comments.{block_ends_there, never_closed}
use Rattle.ps_lexer.proofs.scanner.block_end.Goals as goal

pub returns-then-text-k-eq41 : goal.returns-then-text-k-eq41
returns-then-text-k-eq41 c =
    let before = c.block.invariant in
    block_ends_there c.args.text.now c.args.i c.block.k c.requires before.from before.first c.block-test.true c.if-text-k-eq42.true c.if-text-k-eq41.true

pub returns : goal.returns
returns c =
    let before = c.block.invariant in
    never_closed c.args.text.now c.args.i c.block.k c.requires before.from before.first c.block-test.false
