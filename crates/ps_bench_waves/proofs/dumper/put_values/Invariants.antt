use Rattle.std.proofs.Common.{◌≡◌, map, length, take}
use Rattle.ps_bench_judge.specs.Moments.{moment_of}
use Rattle.ps_bench_waves.specs.Values.{held}
use Rattle.ps_bench_waves.specs.Reads.{read_held}
use Rattle.ps_bench_waves.proofs.dumper.put_values.Given as goal

abbrev pub invariant-loop-wire : goal.invariant-loop-wire
invariant-loop-wire l = record {
  held : map held (take l.wire l.values) ≡ map (read_held l.app l.count (moment_of l.seen)) (take l.wire l.reads);
  len : length l.values ≡ length l.reads;
}
