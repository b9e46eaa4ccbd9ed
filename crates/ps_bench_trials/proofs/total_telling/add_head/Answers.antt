use Rattle.std.proofs.Common.{codes}
use Rattle.ps_bench_trials.specs.Totals.{name_line}
use Rattle.ps_bench_trials.proofs.Held.{two_pieces}
use Rattle.ps_bench_trials.proofs.total_telling.add_head.Goals as goal

pub returns : goal.returns
returns c =
    two_pieces c.args.text.now c.add_name.new.text c.add_name-2.new.text (name_line (codes "application ") c.args.app.now)
    (name_line (codes "trace ") c.args.trace.now) c.add_name-2.result c.in_ok-add_name.ensures c.add_name-2.ensures
