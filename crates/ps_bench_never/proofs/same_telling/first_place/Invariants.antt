use Rattle.std.proofs.Common.{◌≡◌, ◌+◌, drop}
use Rattle.std.specs.List.{common_prefix_len}
use Rattle.ps_bench_never.specs.SameTelling.{alike}
use Rattle.ps_bench_never.proofs.same_telling.first_place.Given as goal

abbrev pub invariant-loop-i : goal.invariant-loop-i
invariant-loop-i l = common_prefix_len alike l.values l.others ≡ l.i + common_prefix_len alike (drop l.i l.values) (drop l.i l.others)
