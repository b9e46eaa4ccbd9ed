use Rattle.std.proofs.Common.{refl}
use Rattle.ps_trace.proofs.PlainLemmas.{plain-line}
use Rattle.ps_trace.proofs.plain_line.read_plain.Goals as goal

pub returns-then-plain_values : goal.returns-then-plain_values
returns-then-plain_values c =
    plain-line c.args.line.now _ _ c.plain_values.new.values c.in_ok-now.ensures (c.if-plain_values.ensures refl)
