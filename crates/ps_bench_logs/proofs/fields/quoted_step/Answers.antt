use Rattle.std.proofs.Common.{arith}
use Rattle.std.proofs.lemmas.Grind.{common_steps}
use Rattle.ps_bench_logs.proofs.Cutting.{one_byte, two_marks}
use Rattle.ps_bench_logs.proofs.fields.quoted_step.Goals as goal
use Rattle.ps_bench_logs.proofs.fields.quoted_step.Goals.{then-bytes-eq1, else-bytes-eq1}

pub returns-then-bytes-ne34 : goal.returns-then-bytes-ne34
returns-then-bytes-ne34 c = one_byte c.args.bytes.now (grind (arith, common_steps)) c.if-bytes-ne34.true

pub returns-then-bytes-eq34 : goal.returns-then-bytes-eq34
returns-then-bytes-eq34 c =
    two_marks c.args.bytes.now (elim c.if-bytes-eq1.branch [
      | then-bytes-eq1 w ↦ grind (arith, common_steps)
      | else-bytes-eq1 w ↦ grind (arith, common_steps)
    ]) c.if-bytes-ne34.false c.if-bytes-eq34.true
