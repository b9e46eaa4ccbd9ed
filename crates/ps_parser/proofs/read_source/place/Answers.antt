use Rattle.ps_parser.proofs.Public.{token_place}
use Rattle.ps_parser.proofs.read_source.place.Goals as goal

pub returns-then-at-len : goal.returns-then-at-len
returns-then-at-len c = token_place c.args.tokens.now.list c.args.at c.at.result.now c.args.tokens.now.end c.at.ensures.item
