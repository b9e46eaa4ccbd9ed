use Rattle.std.proofs.Common.{◌≡◌, map}
use Rattle.std.specs.List.{range_with_len}
use Rattle.ps_bench_never.specs.Asked.{rule_of_two}
use Rattle.ps_bench_never.proofs.ruling.inputs_of_two.Given as goal

-- the inputs so far
abbrev pub invariant-loop-i : goal.invariant-loop-i
invariant-loop-i l = l.rules.items ≡ map (rule_of_two l.app l.other l.file) (range_with_len 0 l.i)
