use Rattle.ps_rows.proofs.TwoHandsTwo.{two_hand_two_decides}
use Rattle.ps_rows.proofs.laws.two_hand_two_rows.Goals as goal

pub returns : goal.returns
returns c = two_hand_two_decides
