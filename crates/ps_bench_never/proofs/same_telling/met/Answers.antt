use Rattle.ps_bench_never.proofs.Asking.{asks_other, says_of_other}
use Rattle.ps_bench_never.proofs.same_telling.met.Goals as goal

pub outputs_behind-requires-2-clause-says : goal.outputs_behind-requires-2-clause-says
outputs_behind-requires-2-clause-says c =
    says_of_other c.args.compared.now.app.now c.args.compared.now.other.now c.args.asked.now c.requires.many c.requires.says

pub outputs_behind-requires-2-clause-outputs : goal.outputs_behind-requires-2-clause-outputs
outputs_behind-requires-2-clause-outputs c =
    asks_other c.args.compared.now.app.now c.args.compared.now.other.now c.args.asked.now c.requires.many c.requires.outputs
