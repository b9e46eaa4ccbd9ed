use Rattle.std.proofs.Common.{drop, flat_map}
use Rattle.ps_bench_cases.specs.Expanded.{value_text}
use Rattle.ps_bench_cases.proofs.Pieces.{LeftOf}
use Rattle.ps_bench_cases.proofs.expanding.put_values.Given as goal

-- the values that are left
abbrev pub invariant-loop-value : goal.invariant-loop-value
invariant-loop-value g l =
    LeftOf g.S.Sink.tells g.S.Sink.taken g.S.Sink.faults (flat_map value_text l.ins) (flat_map value_text (drop l.value-index l.ins)) l.fn.out l.out
