use Rattle.std.proofs.Common.{sym, ◌∙◌}
use Rattle.ps_rows.proofs.Placing.{fit_in_range}
use Rattle.ps_rows.proofs.mask_row.first_in.Goals as goal

pub returns : goal.returns
returns c = c.first_match.ensures ∙ sym (fit_in_range c.args.state c.args.range c.args.rows.now c.requires c.args.conditions)
