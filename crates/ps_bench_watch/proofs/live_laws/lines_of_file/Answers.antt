use Rattle.ps_bench_watch.proofs.LiveSizes as sizes
use Rattle.ps_bench_watch.proofs.live_laws.lines_of_file.Goals as goal

pub returns : goal.returns
returns c = sizes.lines_of_file
