use Rattle.std.proofs.lemmas.Result.{IfOk-weaker}
use Rattle.ps_bench_cases.specs.File.{cases_of}
use Rattle.ps_bench_cases.proofs.RunningFiles.{AreRunnable, IsGiven, cases_run}
use Rattle.ps_bench_cases.proofs.laws.cases_can_be_run.Goals as goal

pub returns : goal.returns
returns c = λ net sizes text. IfOk-weaker (cases_of net sizes text) (IsGiven net) (AreRunnable net) (λ file given. given.run) (cases_run net sizes text)
