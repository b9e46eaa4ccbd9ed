use Rattle.std.proofs.Common.{◌≡◌, ◌++◌, slice_get}
use Rattle.std.specs.Prelude.{nat_lt}
use Rattle.std.specs.List.{flat_map, range_with_len}
use Rattle.ps_ways.specs.Tables.{ways_of}
use Rattle.ps_cover.specs.Lines.{or_text}
use Rattle.ps_cover.proofs.guard.add_alternatives.Given as goal

abbrev pub invariant-loop-n : goal.invariant-loop-n
invariant-loop-n l = l.text ≡ l.fn.text ++ flat_map (λ n. or_text l.kind l.way (nat_lt l.place n) (slice_get (ways_of l.kind) n)) (range_with_len 0 l.n)
