use Rattle.ps_bench_test.specs.Failing.{found_text, values_text}
use Rattle.ps_bench_test.proofs.Joining.{two_more}
use Rattle.ps_bench_test.proofs.failing.add_among.Goals as goal

pub returns : goal.returns
returns c =
    two_more c.args.text.now (found_text c.args.app.now c.args.name c.args.value) (values_text c.args.app.now c.args.name c.args.values.now)
    c.add_found.new.text c.add_values.new.text c.in_ok-add_found.ensures c.in_ok-add_values.ensures
