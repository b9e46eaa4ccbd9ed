use Rattle.std.proofs.Common.{◌≡◌, length, drop}
use Rattle.ps_cut.specs.Parts.{AreCopies, IsActualCopy, StandsFor}
use Rattle.ps_cut.proofs.copies.are_pin_copies.Given as goal

-- what is left at the pins decides
abbrev pub invariant-loop-j : goal.invariant-loop-j
invariant-loop-j l =
    let copy = IsActualCopy (StandsFor l.claim.whole.now l.claim.part.now l.claim.origins.now l.claim.instances.now l.at.of_part l.at.of_whole) in
    record {
      same : length l.args ≡ length l.others;
      rest : AreCopies copy (drop l.j l.args) (drop l.j l.others) → AreCopies copy l.args l.others;
    }
