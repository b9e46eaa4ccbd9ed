use Rattle.std.proofs.Common.{length, ap, arith}
use Rattle.ps_model.proofs.Counting.{few_steps}
use Rattle.ps_model.proofs.app.App.step_count.Goals as goal

pub overflow_cast-result : goal.overflow_cast-result
overflow_cast-result c =
    omega (arith, few_steps c.args.self.now c.sound.ensures, c.sound.ensures.few_signals, ap (λ net. length net.steps) c.self.view_is)
