use Rattle.std.proofs.Common.{◌≡◌, map}
use Rattle.std.specs.List.{range_with_len}
use Rattle.ps_bench_never.specs.Asked.{said_of}
use Rattle.ps_bench_never.proofs.ruling.said_rules.Given as goal

-- the inputs so far
abbrev pub invariant-loop-i : goal.invariant-loop-i
invariant-loop-i l = l.rules.items ≡ map (said_of l.file) (range_with_len 0 l.i)
