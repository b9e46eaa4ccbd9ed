use Rattle.std.proofs.Common.{◌∙◌}
use Rattle.ps_cover.proofs.Counts.{percent_known}
use Rattle.ps_cover.proofs.text.part_of.Goals as goal

pub returns : goal.returns
returns c = let t = c.args.told.now in c.percent_of.ensures ∙ percent_known t.app.now t.exclusions.now.rows.items t.places.now t.cover.now c.args.sort
