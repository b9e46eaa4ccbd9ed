-- The report of what was laid out.
use Rattle.std.proofs.Common.{◌≡◌, true, false, map, Some, None, ap, ◌∙◌}
use Rattle.std.specs.Prelude.{◌==◌}
use Rattle.std.specs.List.{range_with_len}
use Rattle.std.proofs.lemmas.Bool.{cond-true, cond-false}
use Rattle.ps_model.specs.declared.report.Report.{Report}
use Rattle.ps_model.specs.declared.sizes.Sizes.{Sizes}
use Rattle.ps_machine.specs.Reporting.{output_byte, diag_at, holds_report, report_in}
use Rattle.ps_eqvm.specs.declared.layout.TheConstants.{SIGNALS_AT}
use Rattle.ps_eqvm.specs.Plain.{Plain, IsPlain, plain_bytes, laid_out}
use Rattle.ps_eqvm.specs.Turn.{report_b}
use Rattle.ps_eqvm.proofs.Again.{plain_again}

module _ (z : Sizes) (p : Plain) where
  it : Report
  it = record {
    outs = map (λ j. output_byte z SIGNALS_AT (plain_bytes p) j == 1) (range_with_len 0 z.outputs);
    diags = map (diag_at z SIGNALS_AT (plain_bytes p)) (range_with_len 0 z.instances);
  }

  pub no_report_held : IsPlain p → holds_report z SIGNALS_AT (plain_bytes p) ≡ false → report_b z (laid_out p) ≡ None
  unfolding it
  no_report_held is h = ap (report_in z SIGNALS_AT) (plain_again p is) ∙ cond-false (holds_report z SIGNALS_AT (plain_bytes p)) (Some it) None h

  pub report_held : IsPlain p → holds_report z SIGNALS_AT (plain_bytes p) ≡ true → report_b z (laid_out p) ≡ Some (record {
    outs = map (λ j. output_byte z SIGNALS_AT (plain_bytes p) j == 1) (range_with_len 0 z.outputs);
    diags = map (diag_at z SIGNALS_AT (plain_bytes p)) (range_with_len 0 z.instances);
  })
  unfolding it
  report_held is h = ap (report_in z SIGNALS_AT) (plain_again p is) ∙ cond-true (holds_report z SIGNALS_AT (plain_bytes p)) (Some it) None h
