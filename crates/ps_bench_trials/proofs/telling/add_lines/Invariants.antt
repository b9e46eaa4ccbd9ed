use Rattle.std.proofs.Common.{◌≡◌, ◌++◌}
use Rattle.std.specs.List.{flat_map, range_with_len}
use Rattle.std.specs.Prelude.{slice_index_or}
use Rattle.ps_bench_trials.specs.Lines.{no_trial}
use Rattle.ps_bench_trials.specs.Telling.{line_text}
use Rattle.ps_bench_trials.proofs.telling.add_lines.Given as goal

abbrev pub invariant-loop-place : goal.invariant-loop-place
invariant-loop-place l =
    l.text ≡ l.fn.text ++ flat_map (λ place. line_text (slice_index_or l.lines place no_trial) place) (range_with_len 0 l.place)
