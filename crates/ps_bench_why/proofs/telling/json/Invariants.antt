use Rattle.std.proofs.Common.{◌≡◌, ◌++◌}
use Rattle.std.specs.List.{flat_map, range_with_len}
use Rattle.ps_bench_why.specs.Because.{json_fact, json_head}
use Rattle.ps_bench_why.specs.Moments.{moment_of}
use Rattle.ps_bench_why.proofs.telling.json.Given as goal

abbrev pub invariant-loop-n : goal.invariant-loop-n
invariant-loop-n l =
    l.text ≡ json_head (moment_of l.m) ++ flat_map (json_fact (moment_of l.m) l.explanation l.places) (range_with_len 0 l.n)
