use Rattle.std.proofs.Common.{◌≡◌, length}
use Rattle.ps_cut.proofs.deciding.wanted_scans.Given as goal

abbrev pub invariant-loop-k : goal.invariant-loop-k
invariant-loop-k l = length l.scans.items ≡ l.k
