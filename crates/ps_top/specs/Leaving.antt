-- What is left behind, with one thing more.
use Rattle.std.specs.Prelude.{Some}
use Rattle.ps_top.specs.declared.left.Left.{Left}
use Rattle.ps_top.specs.declared.left.Leaving.{Leaving}
use Rattle.ps_top.specs.declared.left.Leaving.TheVariants.{Checked, World, Votes, Refusal, Text, App}

-- the thing stands in the place of what was left of its kind, and all else stays
abbrev pub left_with : Leaving → Left → Left
left_with (Checked checked) left = record left { checked = Some checked }
left_with (World world trip) left = record left { world = Some world; trip = trip }
left_with (Votes world again) left = record left { votes = Some world; again = again }
left_with (Refusal refusal) left = record left { refusal = Some refusal }
left_with (Text text) left = record left { text = Some text }
left_with (App app source) left = record left { app = Some app; source = Some source }
