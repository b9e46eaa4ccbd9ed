use Rattle.std.proofs.Common.{◌≡◌, drop}
use Rattle.ps_findings.specs.Places.{declared_at, names_in}
use Rattle.ps_findings.proofs.places.among_declarations.Given as goal

-- the first of the rest is the first of all
abbrev pub invariant-loop-declaration : goal.invariant-loop-declaration
invariant-loop-declaration l = declared_at l.word (names_in (drop l.declaration-index l.declarations)) ≡ declared_at l.word (names_in l.declarations)
