use Rattle.std.proofs.Common.{◌≡◌, ◌++◌, take, flat_map, codes, decimal}
use Rattle.ps_bench_trace.proofs.playing.add_other_lines.Given as goal

abbrev pub invariant-loop-case : goal.invariant-loop-case
invariant-loop-case l =
    l.text ≡ l.initial.text ++ flat_map (λ case. codes ", " ++ decimal case.line) (take l.case-index l.cases)
