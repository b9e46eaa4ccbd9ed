use Rattle.ps_bench_test.proofs.Values.{escaped_no_mark}
use Rattle.ps_bench_test.proofs.laws.no_value_breaks_out.Goals as goal

pub returns : goal.returns
returns c = λ value. escaped_no_mark value
