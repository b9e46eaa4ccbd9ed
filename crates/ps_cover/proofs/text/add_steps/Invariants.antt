use Rattle.std.proofs.Common.{◌≡◌, ◌++◌, slice_get}
use Rattle.std.specs.List.{flat_map, range_with_len}
use Rattle.ps_cover.specs.Text.{step_text}
use Rattle.ps_cover.specs.Telling.{known_of}
use Rattle.ps_cover.proofs.text.add_steps.Given as goal

abbrev pub invariant-loop-k : goal.invariant-loop-k
invariant-loop-k l = let x = known_of l.told in l.text ≡ l.fn.text ++ flat_map (λ k. step_text x l.format k (slice_get x.net.steps k)) (range_with_len 0 l.k)
