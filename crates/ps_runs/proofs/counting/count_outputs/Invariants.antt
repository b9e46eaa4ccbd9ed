use Rattle.std.proofs.Common.{◌≡◌, take}
use Rattle.std.specs.Prelude.{count_by}
use Rattle.ps_runs.proofs.counting.count_outputs.Given as goal

abbrev pub invariant-outputs : goal.invariant-outputs
invariant-outputs l = l.count ≡ count_by (λ out. out) (take l.i l.report.outs)
