use Rattle.std.proofs.Common.{◌≡◌, length, drop}
use Rattle.ps_bench_cases.specs.Expanded.{point_set}
use Rattle.ps_bench_cases.proofs.point.Point.set.Given as goal

-- the settings that are left
abbrev pub invariant-loop-setting : goal.invariant-loop-setting
invariant-loop-setting l = record {
  rest : point_set l.self (drop l.setting-index l.settings) ≡ point_set l.fn.self l.settings;
  size : length l.self.ins ≡ length l.fn.self.ins;
}
