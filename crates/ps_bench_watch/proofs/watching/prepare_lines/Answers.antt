use Rattle.std.proofs.Common.{◌∙◌}
use Rattle.ps_bench_watch.proofs.Playing.{head_of}
use Rattle.ps_bench_watch.proofs.watching.prepare_lines.Goals as goal

pub returns-clause-head : goal.returns-clause-head
returns-clause-head c = c.in_ok-head.ensures ∙ head_of c.args.app.now c.args.format c.args.names.now
