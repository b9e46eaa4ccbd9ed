use Rattle.std.proofs.Common.{◌≡◌, ◌++◌, decimal, take}
use Rattle.std.specs.List.{flat_map}
use Rattle.ps_bench_report.proofs.ground.add_numbered.Given as goal

abbrev pub invariant-loop-before : goal.invariant-loop-before
invariant-loop-before l = l.words ≡ l.fn.words ++ flat_map (λ n. n.0.now ++ decimal n.1) (take l.before-index l.numbers)
