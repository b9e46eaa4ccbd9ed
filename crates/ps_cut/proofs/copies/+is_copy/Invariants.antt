use Rattle.std.proofs.Common.{◌≡◌, length, map, drop}
use Rattle.ps_model.specs.Exprs.{formula, operands}
use Rattle.ps_cut.specs.Parts.{AreOperands, IsCopy, StandsFor}
use Rattle.ps_cut.proofs.copies.+is_copy.Given as goal

abbrev pub decreases-is_copy : goal.decreases-is_copy
decreases-is_copy l = goal.size-is_copy l

-- the operands that are left decide
abbrev pub invariant-loop-x : goal.invariant-loop-x
invariant-loop-x l =
    let stands = StandsFor l.claim.whole.now l.claim.part.now l.claim.origins.now l.claim.instances.now l.at.of_part l.at.of_whole in
    record {
      at : l.i ≡ l.x-index;
      same : length l.x-items ≡ length l.fs.items.items;
      rest : AreOperands stands (operands (map formula (drop l.x-index l.x-items))) (operands (map formula (drop l.x-index l.fs.items.items))) → IsCopy stands (formula l.fn.e) (formula l.fn.f);
    }
