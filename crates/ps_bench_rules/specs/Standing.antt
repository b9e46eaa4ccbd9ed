-- What a rules file names is of its application.
use Rattle.std.specs.Prelude.{◌<◌}
use Rattle.std.specs.List.{All}
use Rattle.ps_model.specs.Network.{Network, declared_count, input_count}
use Rattle.ps_bench_names.specs.Names.{IsNameOf}
use Rattle.ps_bench_names.specs.declared.name.Setting.{Setting}
use Rattle.ps_bench_rules.specs.declared.rules.Condition.{Condition}
use Rattle.ps_bench_rules.specs.declared.rules.Follow.{Follow}
use Rattle.ps_bench_rules.specs.declared.rules.Rule.{Rule}
use Rattle.ps_bench_rules.specs.declared.rules.RulesFile.{RulesFile}

module _ (net : Network) where
  -- a setting is of an input
  abbrev pub IsOfInput : Setting → Type 0
  IsOfInput setting = setting.input < input_count net

  -- an input follows a signal with a declaration
  pub record IsFollow (f : Follow) : Type 0 where
    pub input : f.input < input_count net
    pub signal : f.signal < declared_count net

  -- a condition is of a name of the application
  abbrev pub IsOfName : Condition → Type 0
  IsOfName c = IsNameOf net c.name

  -- so is each condition of a rule
  abbrev pub IsOfNames : Rule → Type 0
  IsOfNames rule = All IsOfName rule.conditions

  -- all that a rules file names is of the application
  pub record IsOfApplication (file : RulesFile) : Type 0 where
    pub fixed : All IsOfInput file.fixed
    pub follows : All IsFollow file.follows
    pub first : All IsOfInput file.first
    pub rules : All IsOfNames file.rules
