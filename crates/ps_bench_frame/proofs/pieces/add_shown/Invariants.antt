use Rattle.std.proofs.Common.{◌≡◌, ◌++◌, flat_map}
use Rattle.ps_bench_frame.specs.Pieces.{shown_char}
use Rattle.ps_bench_frame.proofs.pieces.add_shown.Given as goal

abbrev pub invariant-loop-c : goal.invariant-loop-c
invariant-loop-c l = l.text ≡ l.initial.text ++ flat_map shown_char l.yielded
