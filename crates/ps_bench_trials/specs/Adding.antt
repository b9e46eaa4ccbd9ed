-- What is counted of several lists of trials together.
use Rattle.std.specs.Prelude.{List, map, zip}
use Rattle.ps_bench_trials.specs.Lines.{added_line}
use Rattle.ps_bench_trials.specs.declared.line.Line.{Line}

-- all lines of two tallies together, place by place
abbrev pub added : (lines others : List Line) → List Line
added lines others = map (λ p. added_line p.0 p.1) (zip lines others)
