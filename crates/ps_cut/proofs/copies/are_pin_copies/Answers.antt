use Rattle.std.proofs.Common.{refl}
use Rattle.ps_model.specs.Args.{actual}
use Rattle.ps_cut.specs.Parts.{IsActualCopy, StandsFor}
use Rattle.ps_cut.proofs.Copying.{copies_on}
use Rattle.ps_cut.proofs.copies.are_pin_copies.Goals as goal

pub loop-j-preserved : goal.loop-j-preserved
loop-j-preserved c =
    let claim = c.args.claim.now in
    let copy = IsActualCopy (StandsFor claim.whole.now claim.part.now claim.origins.now claim.instances.now c.args.at.of_part c.args.at.of_whole) in
    record {
      same = c.loop-j.invariant.same;
      rest = λ left. c.loop-j.invariant.rest (copies_on copy c.args.args.now c.args.others.now c.loop-j.j (actual c.at.result.now) (actual c.at-in-loop-j.result.now)
          c.at.ensures c.at-in-loop-j.ensures (c.if-not-is_pin_copy.ensures refl) left);
    }
