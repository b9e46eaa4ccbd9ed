use Rattle.std.proofs.Common.{◌≡◌}
use Rattle.ps_tests.proofs.world.are_made.Given as goal

-- the turns change neither what never changes nor the time
abbrev pub invariant-loop-letter : goal.invariant-loop-letter
invariant-loop-letter l = record {
  setup : l.world.setup ≡ l.initial.world.setup;
  last : l.world.state.last ≡ l.initial.world.state.last;
}
