use Rattle.std.proofs.Common.{◌≡◌, length}
use Rattle.ps_bench_test.specs.Placing.{from_line}
use Rattle.ps_bench_test.proofs.placing.from_line.Given as goal

abbrev pub invariant-lines : goal.invariant-lines
invariant-lines l = from_line l.line l.rest ≡ from_line l.line l.statements

abbrev pub decreases-lines : goal.decreases-lines
decreases-lines l = length l.rest
