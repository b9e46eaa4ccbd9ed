use Rattle.ps_eqvm.proofs.LowBits.{follow}
use Rattle.ps_eqvm.proofs.outputs.low_then_high.Goals as goal

pub returns : goal.returns
returns c = λ xs ys many few one two. follow xs ys c.args.low c.args.high c.args.count many few one two
