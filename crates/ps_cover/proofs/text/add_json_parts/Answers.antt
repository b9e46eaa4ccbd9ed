use Rattle.std.proofs.Common.{append_assoc}
use Rattle.ps_cover.proofs.text.add_json_parts.Goals as goal

pub returns : goal.returns
returns c = simp append_assoc c.add_said.ensures
