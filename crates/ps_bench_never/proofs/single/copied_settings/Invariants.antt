use Rattle.std.proofs.Common.{◌≡◌, take}
use Rattle.ps_bench_never.proofs.single.copied_settings.Given as goal

-- those so far
abbrev pub invariant-loop-setting : goal.invariant-loop-setting
invariant-loop-setting l = l.copied ≡ take l.setting-index l.settings
