use Rattle.std.proofs.Common.{◌≡◌, take}
use Rattle.std.specs.Prelude.{count_by}
use Rattle.ps_model.specs.declared.report.Diag.{Diag}
use Rattle.ps_runs.proofs.counting.count_errors.Given as goal

abbrev pub invariant-instances : goal.invariant-instances
invariant-instances l = l.count ≡ count_by (λ (d : Diag). d.error) (take l.i l.report.diags)
