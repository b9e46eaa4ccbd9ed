use Rattle.std.proofs.Common.{◌≡◌, drop}
use Rattle.ps_bench_never.specs.Asked.{value_given}
use Rattle.ps_bench_never.proofs.ruling.value_given.Given as goal

-- what is found among those that are left is what is found among all
abbrev pub invariant-loop-setting : goal.invariant-loop-setting
invariant-loop-setting l = value_given l.input (drop l.setting-index l.settings) ≡ value_given l.input l.settings
