use Rattle.std.proofs.Common.{◌∙◌, length, sym, ap}
use Rattle.std.proofs.lemmas.List.FromFn.{length-map-range_with_len}
use Rattle.ps_bench_cases.specs.declared.case.Act.{Act}
use Rattle.ps_bench_cases.specs.Meant.{time_at, times_made}
use Rattle.ps_bench_judge.proofs.run.scans_by.Goals as goal

pub returns-in-Scans : goal.returns-in-Scans
returns-in-Scans c =
    sym (ap (λ (act : Act). length (times_made act)) c.in-Scans.is
    ∙ length-map-range_with_len (time_at c.in-Scans.pace) 1 c.in-Scans.pace.count)
