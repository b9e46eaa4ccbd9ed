use Rattle.std.proofs.Common.{◌≡◌, take}
use Rattle.ps_flatten.proofs.declarations.names_of.Given as goal

abbrev pub invariant-loop-name : goal.invariant-loop-name
invariant-loop-name l = l.copies ≡ take l.name-index l.names
