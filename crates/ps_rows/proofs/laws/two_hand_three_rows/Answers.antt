use Rattle.ps_rows.proofs.TwoHandsThree.{two_hand_three_decides}
use Rattle.ps_rows.proofs.laws.two_hand_three_rows.Goals as goal

pub returns : goal.returns
returns c = two_hand_three_decides
