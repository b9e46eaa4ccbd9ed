use Rattle.std.proofs.Common.{◌≡◌, length, drop}
use Rattle.ps_cut.specs.Asking.{IsCheckCopy}
use Rattle.ps_cut.specs.Parts.{AreCopies}
use Rattle.ps_cut.proofs.asks.is_rule_copy.Given as goal

-- the checks that are left decide
abbrev pub invariant-loop-i : goal.invariant-loop-i
invariant-loop-i l =
    let copy = IsCheckCopy l.claim.whole.now l.claim.part.now l.claim.origins.now l.claim.instances.now in
    record {
      same : length l.of_part.checks.items ≡ length l.of_whole.checks.items;
      rest : AreCopies copy (drop l.i l.of_part.checks.items) (drop l.i l.of_whole.checks.items) → AreCopies copy l.of_part.checks.items l.of_whole.checks.items;
    }
