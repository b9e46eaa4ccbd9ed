use Rattle.std.proofs.Common.{map}
use Rattle.ps_reach.specs.Tracing.{inputs_in}
use Rattle.ps_bench_never.specs.Casing.{line_text}
use Rattle.ps_bench_never.proofs.Joining.{one_more}
use Rattle.ps_bench_never.proofs.casing.add_lines.Goals as goal

pub loop-i-preserved : goal.loop-i-preserved
loop-i-preserved c =
    one_more (line_text c.args.app.now c.args.every c.args.conditions.now (map inputs_in c.args.scans.now)) c.loop-i.i c.loop-i.text c.add_line.new.text c.args.text.now
    c.loop-i.invariant c.in_ok-add_line.ensures
