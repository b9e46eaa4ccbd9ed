use Rattle.std.proofs.Common.{◌≡◌, ◌++◌, map}
use Rattle.std.specs.List.{flat_map, range_with_len}
use Rattle.ps_reach.specs.Tracing.{inputs_in}
use Rattle.ps_bench_never.specs.Casing.{line_text}
use Rattle.ps_bench_never.proofs.casing.add_lines.Given as goal

abbrev pub invariant-loop-i : goal.invariant-loop-i
invariant-loop-i l = l.text ≡ l.initial.text ++ flat_map (line_text l.app l.every l.conditions (map inputs_in l.scans)) (range_with_len 0 l.i)
