use Rattle.std.proofs.Common.{arith}
use Rattle.ps_bench_watch.proofs.mem_stream.most_of.Goals as goal

pub returns-in-Some : goal.returns-in-Some
returns-in-Some c = c.if-n-gt0.true

pub returns-in_default : goal.returns-in_default
returns-in_default c = omega arith

pub returns-in_default-2 : goal.returns-in_default-2
returns-in_default-2 c = omega arith
