use Rattle.std.proofs.Common.{refl}
use Rattle.ps_bench_trials.proofs.Held.{named_text}
use Rattle.ps_bench_trials.proofs.naming.digest_of_text.Goals as goal

pub returns : goal.returns
returns c = named_text c.args.text.now _ c.min-size.result c.digits_of.result c.min-size.ensures refl c.digits_of.ensures
