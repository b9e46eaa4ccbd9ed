use Rattle.std.proofs.Common.{◌-◌, arith, length-drop, length, drop}
use Rattle.std.proofs.lemmas.List.{take_all}
use Rattle.ps_trace.proofs.Numbers.{up_to_nine_digits}
use Rattle.ps_trace.proofs.PlainLemmas.{numbered-at}
use Rattle.ps_trace.proofs.plain_line.number_within.Goals as goal

pub returns : goal.returns
returns c =
    numbered-at c.args.bytes.now _ c.digits.end c.digits.value (omega arith) (omega arith) c.digits.invariant.digits c.digits.invariant.value
    (omega (arith, up_to_nine_digits c.digits.end (omega arith)))
    (take_all (length c.args.bytes.now - c.digits.end) (drop c.digits.end c.args.bytes.now) (omega (arith, length-drop c.digits.end c.args.bytes.now)))
