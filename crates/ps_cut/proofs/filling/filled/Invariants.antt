use Rattle.std.proofs.Common.{◌≡◌, drop}
use Rattle.ps_cut.specs.Filling.{filled}
use Rattle.ps_cut.proofs.filling.filled.Given as goal

-- the inputs of the part that are left decide
abbrev pub invariant-loop-r : goal.invariant-loop-r
invariant-loop-r l = filled l.origins l.values l.s l.other ≡ filled (drop l.r l.origins) (drop l.r l.values) l.s l.other
