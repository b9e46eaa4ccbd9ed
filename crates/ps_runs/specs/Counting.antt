-- What is counted of the scans of a run, one after another.
use Rattle.std.specs.Prelude.{◌+◌, ℕ, min, count_by}
use Rattle.ps_model.specs.declared.channel.Verdict.{Verdict}
use Rattle.ps_model.specs.declared.channel.Verdict.TheVariants.{Released, Tripped, Down}
use Rattle.ps_model.specs.declared.report.Diag.{Diag}
use Rattle.ps_model.specs.declared.report.Report.{Report}
use Rattle.ps_outside.specs.Outside.{last_count}
use Rattle.ps_runs.specs.Outcomes.{Outcome, performed, refuses, anew}
use Rattle.ps_runs.specs.declared.counting.Counter.{Counter}

-- how many outputs of a report are TRUE
abbrev pub true_outputs : Report → ℕ
true_outputs r = count_by (λ out. out) r.outs

-- how many instances of a report have Error
abbrev pub true_errors : Report → ℕ
true_errors r = count_by (λ (d : Diag). d.error) r.diags

-- nothing was counted
abbrev pub none_counted : Counter
none_counted = record { scans = 0; trues = 0; errors = 0 }

-- a count with so many more, up to its largest value
abbrev pub with_more : (count more : ℕ) → ℕ
with_more count more = min (count + more) last_count

-- what was counted, with one report more
abbrev pub counted_report : Counter → Report → Counter
counted_report c report = record {
  scans = with_more c.scans 1;
  trues = with_more c.trues (true_outputs report);
  errors = with_more c.errors (true_errors report);
}

-- what was counted, after an outcome: a scan that is released counts
abbrev pub counted : Counter → Outcome Verdict → Counter
counted c (performed now Released report) = counted_report c report
counted c (performed now (Tripped cause) report) = c
counted c (performed now Down report) = c
counted c (refuses refusal) = c
counted c anew = c
