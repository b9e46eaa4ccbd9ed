use Rattle.ps_bench_test.proofs.Values.{value_xml}
use Rattle.ps_bench_test.proofs.laws.values_stay_xml.Goals as goal

pub returns : goal.returns
returns c = λ value utf8 xml. value_xml value utf8 xml
