use Rattle.ps_bench_why.proofs.Noting.{HaveNoted}
use Rattle.ps_bench_why.proofs.walker.note_all.Given as goal

abbrev pub invariant-loop-i : goal.invariant-loop-i
invariant-loop-i l = HaveNoted l.kept l.now l.first l.fn.since l.since l.i
