use Rattle.std.proofs.Common.{◌∙◌, sym, ap, length}
use Rattle.std.proofs.lemmas.List.FromFn.{length-map-range_with_len}
use Rattle.ps_decision.proofs.report.read_report.Goals as goal

pub returns-clause-sized : goal.returns-clause-sized
returns-clause-sized c = (
  ap length c.write_outputs.ensures ∙ length-map-range_with_len _ 0 _ ∙ sym c.requires.outs,
  ap length c.write_diags.ensures ∙ length-map-range_with_len _ 0 _ ∙ sym c.requires.diags,
)
