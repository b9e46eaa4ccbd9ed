use Rattle.std.proofs.Common.{◌≡◌, drop}
use Rattle.ps_bench_rules.specs.File.{settings_after, with_setting}
use Rattle.ps_bench_rules.proofs.draft.Draft.put_all.Given as goal

-- what stands after the settings that are left is what stands after all
abbrev pub invariant-loop-setting : goal.invariant-loop-setting
invariant-loop-setting l =
    settings_after (with_setting l.is_first) l.self l.number (drop l.setting-index l.settings)
    ≡ settings_after (with_setting l.is_first) l.fn.self l.number l.settings
