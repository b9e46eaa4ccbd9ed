use Rattle.ps_bench_test.proofs.Descriptions.{escaped_read}
use Rattle.ps_bench_test.proofs.laws.descriptions_are_read_back.Goals as goal

pub returns : goal.returns
returns c = λ description. escaped_read description
