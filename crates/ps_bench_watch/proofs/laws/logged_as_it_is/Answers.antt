use Rattle.ps_bench_watch.proofs.Back.{as_it_is}
use Rattle.ps_bench_watch.proofs.laws.logged_as_it_is.Goals as goal

pub returns : goal.returns
returns c = as_it_is
