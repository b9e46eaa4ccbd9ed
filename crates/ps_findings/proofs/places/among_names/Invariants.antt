use Rattle.std.proofs.Common.{◌≡◌, drop}
use Rattle.ps_findings.specs.Places.{declared_at}
use Rattle.ps_findings.proofs.places.among_names.Given as goal

-- the first of the rest is the first of all
abbrev pub invariant-loop-name : goal.invariant-loop-name
invariant-loop-name l = declared_at l.word (drop l.name-index l.names) ≡ declared_at l.word l.names
