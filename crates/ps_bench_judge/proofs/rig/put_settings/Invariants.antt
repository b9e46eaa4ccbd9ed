use Rattle.std.proofs.Common.{◌≡◌, length, drop}
use Rattle.ps_bench_cases.specs.Meant.{set_by}
use Rattle.ps_bench_judge.proofs.rig.put_settings.Given as goal

-- the inputs after the settings that are left are those after all
abbrev pub invariant-loop-setting : goal.invariant-loop-setting
invariant-loop-setting l = record {
  inputs : length l.ins ≡ length l.fn.ins;
  set : set_by l.ins (drop l.setting-index l.settings) ≡ set_by l.fn.ins l.settings;
}
