use Rattle.ps_bench_test.proofs.Values.{escaped_value_read}
use Rattle.ps_bench_test.proofs.laws.values_are_read_back.Goals as goal

pub returns : goal.returns
returns c = λ value text. escaped_value_read value text
