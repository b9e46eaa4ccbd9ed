-- A rules file with one of its rules alone.
use Rattle.std.specs.Prelude.{[], ◌∷◌}
use Rattle.ps_bench_rules.specs.declared.rules.Rule.{Rule}
use Rattle.ps_bench_rules.specs.declared.rules.RulesFile.{RulesFile}

-- the file with this rule alone
abbrev pub with_rule : RulesFile → Rule → RulesFile
with_rule file rule = record {
  pace = file.pace;
  fixed = file.fixed;
  follows = file.follows;
  first = file.first;
  rules = rule ∷ [];
  end = file.end;
}
