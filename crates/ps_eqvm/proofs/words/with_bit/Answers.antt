use Rattle.ps_eqvm.proofs.LowBits.{bit_joined, bit_beside}
use Rattle.ps_eqvm.proofs.words.with_bit.Goals as goal

pub returns-clause-same : goal.returns-clause-same
returns-clause-same c = bit_joined c.args.number c.args.j c.from.result c.args.on c.from.ensures c.requires

pub returns-clause-others : goal.returns-clause-others
returns-clause-others c = bit_beside c.args.number c.args.j c.from.result c.args.on c.from.ensures c.requires
