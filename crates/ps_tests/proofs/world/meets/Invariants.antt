use Rattle.std.proofs.Common.{◌≡◌, length}
use Rattle.ps_tests.proofs.world.meets.Given as goal

-- the world and the report have the application's sizes, and every scan is at 0 ms
abbrev pub invariant-loop-row : goal.invariant-loop-row
invariant-loop-row l = record {
  inputs : l.world.setup.sizes.inputs ≡ 3;
  last : l.world.state.last ≡ 0;
  outs : length l.report.outs ≡ l.world.setup.sizes.outputs;
  diags : length l.report.diags ≡ l.world.setup.sizes.instances;
}
