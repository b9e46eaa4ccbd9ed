use Rattle.std.proofs.Common.{codes}
use Rattle.ps_bench_test.specs.Junit.{attribute}
use Rattle.ps_bench_test.proofs.Joining.{two_more}
use Rattle.ps_bench_test.proofs.junit.add_case_name.Goals as goal

pub returns : goal.returns
returns c =
    two_more c.args.text.now (codes "<testcase") (attribute (codes "name") c.args.name.now)
    c.extend_from_slice.new.self c.add_attribute.new.text c.in_ok-extend_from_slice.ensures c.in_ok-add_attribute.ensures
