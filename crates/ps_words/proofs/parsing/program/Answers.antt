use Rattle.std.proofs.Common.{arith}
use Rattle.ps_words.proofs.Adding.{next_form}
use Rattle.ps_words.proofs.parsing.program.Goals as goal

pub loop-form-preserved : goal.loop-form-preserved
loop-form-preserved c =
    next_form _ c.loop-form.form-index _ _ _ (omega arith) c.loop-form.invariant c.in_ok-program.ensures
