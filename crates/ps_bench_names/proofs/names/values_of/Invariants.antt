use Rattle.std.proofs.Common.{◌≡◌, ◌++◌, ◌+◌, [], ◌==◌, length, is_some}
use Rattle.std.specs.Option.{option_map_or}
use Rattle.std.specs.List.{list_all, filter_map, slice_split}
use Rattle.ps_bench_names.specs.Names.{value_of}
use Rattle.ps_bench_names.proofs.names.values_of.Given as goal

-- the values that were found, and the pieces that are left
abbrev pub invariant-pieces : goal.invariant-pieces
invariant-pieces l =
    let left = option_map_or (λ text. slice_split (λ b. b == 44) text.now) l.left [] in
    record {
      proper : list_all (λ piece. is_some (value_of l.app l.name piece)) left ≡ list_all (λ piece. is_some (value_of l.app l.name piece)) (slice_split (λ b. b == 44) l.word);
      values : l.values ++ filter_map (value_of l.app l.name) left ≡ filter_map (value_of l.app l.name) (slice_split (λ b. b == 44) l.word);
    }

abbrev pub decreases-pieces : goal.decreases-pieces
decreases-pieces l = option_map_or (λ text. length text.now + 1) l.left 0
