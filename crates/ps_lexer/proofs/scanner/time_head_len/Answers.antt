use Rattle.ps_lexer.proofs.Longest.{no_head}
use Rattle.ps_lexer.proofs.scanner.time_head_len.Goals as goal

pub returns-else-begins_with-2-clause-none : goal.returns-else-begins_with-2-clause-none
returns-else-begins_with-2-clause-none c = no_head c.args.bytes.now c.if-begins_with.ensures.1 c.if-begins_with-2.ensures.1
