use Rattle.std.proofs.Common.{◌≡◌, ◌++◌, map, take, drop}
use Rattle.ps_bench_judge.specs.Moments.{moment_of}
use Rattle.ps_bench_waves.specs.Room.{renewed}
use Rattle.ps_bench_waves.proofs.column.renew.Given as goal

abbrev pub invariant-loop-column : goal.invariant-loop-column
invariant-loop-column l =
    l.columns ≡ map (renewed l.app l.is_first (moment_of l.seen)) (take l.column-index l.initial.columns)
    ++ drop l.column-index l.initial.columns
