use Rattle.std.proofs.Common.{◌≡◌, length}
use Rattle.ps_model.specs.Network.{instance_count}
use Rattle.ps_scan.specs.Cells.{IsFor}
use Rattle.ps_tests.proofs.evaluator.table_met.Given as goal

-- the evaluator and the report have the application's sizes
abbrev pub invariant-loop-row : goal.invariant-loop-row
invariant-loop-row l = record {
  sizes : IsFor l.app l.scanner;
  outs : length l.report.outs ≡ length l.app.outputs;
  diags : length l.report.diags ≡ instance_count l.app;
}
