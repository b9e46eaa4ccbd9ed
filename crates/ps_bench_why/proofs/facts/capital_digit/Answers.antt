use Rattle.std.proofs.Common.{◌∙◌, ap, slice_index}
use Rattle.hex.specs.Hex.{upper_digits}
use Rattle.ps_cover.proofs.Capitals.{capital_digit}
use Rattle.ps_bench_why.proofs.facts.capital_digit.Goals as goal

pub returns : goal.returns
returns c = ap (slice_index upper_digits) c.from.ensures ∙ capital_digit c.args.n c.requires
