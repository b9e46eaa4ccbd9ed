use Rattle.std.proofs.Common.{◌≡◌, ◌++◌}
use Rattle.std.specs.List.{flat_map, range_with_len}
use Rattle.ps_cover.specs.Text.{decisions_at, place_of}
use Rattle.ps_cover.specs.Telling.{known_of}
use Rattle.ps_cover.proofs.text.add_decisions.Given as goal

abbrev pub invariant-loop-n : goal.invariant-loop-n
invariant-loop-n l = let x = known_of l.told in l.text ≡ l.fn.text ++ flat_map (λ n. decisions_at l.format (place_of x n) (x.at n)) (range_with_len 0 l.n)
