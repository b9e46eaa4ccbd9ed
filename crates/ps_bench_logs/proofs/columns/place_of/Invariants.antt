use Rattle.std.proofs.Common.{◌≡◌, ◌-◌, ◌++◌, length}
use Rattle.std.specs.List.{filter, range_with_len}
use Rattle.ps_bench_logs.specs.Header.{names_column}
use Rattle.ps_bench_logs.specs.Spans.{part_at, parts_named}
use Rattle.ps_bench_logs.proofs.Naming.{place_list}
use Rattle.ps_bench_logs.proofs.columns.place_of.Given as goal

-- the places are the one that was found and those that are left
abbrev pub invariant-loop-k : goal.invariant-loop-k
invariant-loop-k l =
    parts_named l.app l.time l.line l.spans l.column
    ≡ place_list l.place
    ++ filter (λ k. names_column l.app l.time l.column (part_at l.line l.spans k)) (range_with_len l.k (length l.spans - l.k))
