use Rattle.std.proofs.Common.{◌∙◌}
use Rattle.ps_cover.proofs.Counts.{tally_known}
use Rattle.ps_cover.proofs.text.count_of.Goals as goal

pub returns : goal.returns
returns c = let t = c.args.told.now in c.tally.ensures ∙ tally_known t.app.now t.exclusions.now.rows.items t.places.now t.cover.now c.args.sort c.args.step c.args.status
