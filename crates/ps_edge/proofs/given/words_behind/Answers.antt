use Rattle.std.proofs.Common.{◌∷◌}
use Rattle.ps_edge.proofs.given.words_behind.Goals as goal

pub returns : goal.returns
returns g c = (
  c.in-Some._program ∷ c.loop-word.yielded,
  (
    c.next-in-loop-word.new.self,
    (
      c.loop-word.word-iterator,
      (c.next.new.self, c.in-Some.ensures.steps, rw c.into_iter-word-iterator.ensures.into_iter_gives at c.loop-word.yielded_by),
      c.in-None.ensures.steps,
    ),
  ),
  c.loop-word.invariant,
)
