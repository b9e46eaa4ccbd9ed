use Rattle.std.proofs.Common.{codes}
use Rattle.ps_bench_test.specs.Naming.{name_text, value_text}
use Rattle.ps_bench_test.proofs.Joining.{four_more}
use Rattle.ps_bench_test.proofs.failing.add_found.Goals as goal

pub returns : goal.returns
returns c =
    four_more c.args.text.now (name_text c.args.app.now c.args.name) (codes " is ") (value_text c.args.app.now c.args.name c.args.value)
    (codes ", expected ") c.add_name.new.text c.extend_from_slice.new.self c.add_value.new.text c.extend_from_slice-2.new.self
    c.in_ok-add_name.ensures c.in_ok-extend_from_slice.ensures c.in_ok-add_value.ensures c.in_ok-extend_from_slice-2.ensures
