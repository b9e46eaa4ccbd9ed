use Rattle.std.proofs.Common.{arith}
use Rattle.ps_parser.specs.declared.heads.Heads.TheVariants.{Program}
use Rattle.ps_parser.proofs.Answering.{more_refused, all_spelt, parse_exit}
use Rattle.ps_parser.proofs.read_source.parse.Goals as goal

pub returns-in_err-source : goal.returns-in_err-source
returns-in_err-source c = parse_exit c.args.tokens.now _ _ c.from_residual.ensures.1 c.in_err-source.ensures

pub returns-then-next-len : goal.returns-then-next-len
returns-then-next-len c = more_refused Program c.args.tokens.now.list c.in_ok-source.next c.in_ok-source.source c.args.tokens.now.end c.place.result c.in_ok-source.ensures (omega (arith, c.if-next-len.true, c.len.ensures)) c.place.ensures

pub returns : goal.returns
returns c = all_spelt c.args.tokens.now.list c.in_ok-source.next c.in_ok-source.source c.in_ok-source.ensures (omega (arith, c.if-next-len.false, c.len.ensures))
