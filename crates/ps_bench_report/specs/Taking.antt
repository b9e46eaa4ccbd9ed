-- What a cover becomes by an outcome of a run that is watched.
use Rattle.ps_bench_cover.specs.Taking.{TakesBehind}
use Rattle.ps_cover.specs.Covers.{Renews}
use Rattle.ps_cover.specs.declared.cover.Cover.{Cover}
use Rattle.ps_model.specs.Network.{Network}
use Rattle.ps_model.specs.declared.channel.Verdict.{Verdict}
use Rattle.ps_runs.specs.Outcomes.{Outcome, performed, refuses, anew}
use Rattle.ps_runs.specs.declared.striking.StruckWorld.{StruckWorld}
use Rattle.ps_runs.specs.declared.watching.Watched.{Watched}

-- after which the evaluator stands so
abbrev pub cover_takes : Network → Cover → Watched StruckWorld → Outcome Verdict → Cover → Type 0
cover_takes net old p (performed now verdict report) new = TakesBehind net old p.evaluator now new
cover_takes net old p (refuses refusal) new = Unit {0}
cover_takes net old p anew new = Renews net old new
