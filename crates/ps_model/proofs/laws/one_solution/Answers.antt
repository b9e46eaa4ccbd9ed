use Rattle.ps_model.proofs.OneSolution.{has_one_solution}
use Rattle.ps_model.proofs.laws.one_solution.Goals as goal

pub returns : goal.returns
returns c = λ old ins dt. has_one_solution c.args.app.now c.sound.ensures old ins dt
