use Rattle.std.proofs.Common.{◌≡◌, ◌++◌, take}
use Rattle.ps_bench_report.specs.Writing.{written}
use Rattle.ps_bench_report.proofs.writing.add_page.Given as goal

abbrev pub invariant-loop-piece : goal.invariant-loop-piece
invariant-loop-piece l = l.text ≡ l.initial.text ++ written (take l.piece-index l.piece-items)
