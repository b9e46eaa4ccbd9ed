-- The line of a case file, of a rules file, of a log or of a file of counts that is refused.
use Rattle.std.specs.Prelude.{ℕ, List, ◌++◌, codes, decimal}
use Rattle.ps_bench_cases.specs.declared.rule.CaseRefusal.{CaseRefusal}
use Rattle.ps_bench_cases.specs.Parts.{rank}
use Rattle.ps_bench_logs.specs.Log.{rank as log_rank}
use Rattle.ps_bench_logs.specs.declared.flaw.LogRefusal.{LogRefusal}
use Rattle.ps_bench_rules.specs.Parts.{rank as flaw_rank}
use Rattle.ps_bench_rules.specs.declared.flaw.RulesRefusal.{RulesRefusal}
use Rattle.ps_bench_trials.specs.Sums.{rank as sum_rank}
use Rattle.ps_bench_trials.specs.declared.refusal.SumRefusal.{SumRefusal}

-- the line of a refusal, as `refused K2 line 3`
abbrev pub refused_line : CaseRefusal → List ℕ
refused_line r = codes "refused K" ++ decimal (rank r.rule) ++ codes " line " ++ decimal r.line ++ codes "\n"

-- the line of a refusal of a rules file, as `refused R2 line 3`
abbrev pub rules_refused_line : RulesRefusal → List ℕ
rules_refused_line r = codes "refused R" ++ decimal (flaw_rank r.flaw) ++ codes " line " ++ decimal r.line ++ codes "\n"

-- the line of a refusal of a log, as `refused V2 line 1`
abbrev pub log_refused_line : LogRefusal → List ℕ
log_refused_line r = codes "refused V" ++ decimal (log_rank r.flaw) ++ codes " line " ++ decimal r.line ++ codes "\n"

-- the line of a refusal of a file of counts, as `refused U2 line 1`
abbrev pub sum_refused_line : SumRefusal → List ℕ
sum_refused_line r = codes "refused U" ++ decimal (sum_rank r.rule) ++ codes " line " ++ decimal r.line ++ codes "\n"
