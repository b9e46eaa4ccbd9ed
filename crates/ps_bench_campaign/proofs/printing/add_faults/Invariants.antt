use Rattle.std.proofs.Common.{◌≡◌, ◌++◌}
use Rattle.std.specs.List.{flat_map, range_with_len}
use Rattle.ps_bench_campaign.proofs.Numbered.{line_of}
use Rattle.ps_bench_campaign.proofs.printing.add_faults.Given as goal

abbrev pub invariant-loop-done : goal.invariant-loop-done
invariant-loop-done l = l.text ≡ l.fn.text ++ flat_map (line_of l.codes.a l.codes.b l.room l.asked.from) (range_with_len 0 l.done)
