use Rattle.std.proofs.Common.{◌≡◌, ◌++◌, drop}
use Rattle.std.specs.List.{flat_map}
use Rattle.ps_bench_why.specs.Because.{line_text}
use Rattle.ps_bench_why.specs.Moments.{moment_of}
use Rattle.ps_bench_why.proofs.telling.add_lines.Given as goal

abbrev pub invariant-loop-line : goal.invariant-loop-line
invariant-loop-line l =
    l.text ++ flat_map (line_text (moment_of l.m) l.facts l.places) (drop l.line-index l.lines)
    ≡ l.initial.text ++ flat_map (line_text (moment_of l.m) l.facts l.places) l.lines
