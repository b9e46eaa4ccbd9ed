use Rattle.std.proofs.Common.{arith}
use Rattle.std.proofs.lemmas.Grind.{common_steps}
use Rattle.ps_outside.proofs.Pieces.{read_more, read_all}
use Rattle.ps_outside.proofs.reading.read_upto.Goals as goal
use Rattle.ps_outside.proofs.reading.read_upto.Goals.{then-n-eq0-via-then-n-eq0, then-n-eq0-via-else-n-eq0+then-len-most}

pub returns-then-n-eq0-clause-bytes : goal.returns-then-n-eq0-clause-bytes
returns-then-n-eq0-clause-bytes g c = λ tells text is.
    let so_far = c.pieces.invariant.bytes tells text is in
    elim c.then-n-eq0.branch [
      | then-n-eq0-via-then-n-eq0 w ↦ grind (arith, common_steps, read_more, read_all)
      | then-n-eq0-via-else-n-eq0+then-len-most w ↦ grind (arith, common_steps, read_more)
    ]

pub pieces-preserved : goal.pieces-preserved
pieces-preserved g c = record {
  within = grind (arith, common_steps);
  bytes = λ tells text is. grind (arith, common_steps, read_more);
  exact = λ other. grind (arith, common_steps);
  kept = cc;
  telling = cc;
}
