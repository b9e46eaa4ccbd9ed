use Rattle.std.proofs.Common.{◌≡◌, ◌++◌}
use Rattle.std.specs.List.{flat_map, range_with_len}
use Rattle.ps_cover.specs.Telling.{known_of}
use Rattle.ps_bench_cover.specs.Ideas.{idea_at}
use Rattle.ps_bench_cover.proofs.ideas.add_ideas.Given as goal

abbrev pub invariant-loop-n : goal.invariant-loop-n
invariant-loop-n l = let x = known_of l.told in l.text ≡ l.fn.text ++ flat_map (λ n. idea_at x (x.at n)) (range_with_len 0 l.n)
