use Rattle.std.proofs.Common.{◌≡◌, drop}
use Rattle.ps_findings.specs.Places.{declared_at, names_of}
use Rattle.ps_findings.proofs.places.among_sections.Given as goal

-- the first of the rest is the first of all
abbrev pub invariant-loop-section : goal.invariant-loop-section
invariant-loop-section l = declared_at l.word (names_of (drop l.section-index l.sections)) ≡ declared_at l.word (names_of l.sections)
