use Rattle.std.proofs.Common.{arith}
use Rattle.ps_load.specs.Texts.{trace_text}
use Rattle.ps_load.proofs.Parts.{trace_length, read_more, first_and_part}
use Rattle.ps_load.proofs.texts.read_trace.Goals as goal

pub read_line-done-requires-clause-within : goal.read_line-done-requires-clause-within
read_line-done-requires-clause-within c = omega (arith, trace_length c.args.number)

pub lines-preserved : goal.lines-preserved
lines-preserved c = record {
  within = omega (arith, trace_length c.args.number);
  bytes = read_more (trace_text c.args.number) c.lines.buf c.read_line-done.new.buf c.min-at.result c.lines.done c.read_line-done.result (omega arith) c.lines.invariant.bytes
      c.read_line-done.ensures.bytes _ (first_and_part c.lines.buf c.read_line-done.new.buf _ c.lines.done c.read_line-done.result (omega arith) c.read_line-done.ensures.fits);
}

pub returns-clause-count : goal.returns-clause-count
returns-clause-count c = omega (arith, trace_length c.args.number)
