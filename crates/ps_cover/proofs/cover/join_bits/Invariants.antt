use Rattle.ps_cover.proofs.Looking.{Joined}
use Rattle.ps_cover.proofs.cover.join_bits.Given as goal

abbrev pub invariant-loop-n : goal.invariant-loop-n
invariant-loop-n l = Joined l.others l.fn.bits l.bits l.n
