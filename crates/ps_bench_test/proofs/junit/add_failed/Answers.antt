use Rattle.std.proofs.Common.{codes}
use Rattle.ps_bench_test.specs.Junit.{failed_head, xml_escaped}
use Rattle.ps_bench_test.proofs.Joining.{three_more}
use Rattle.ps_bench_test.proofs.junit.add_failed.Goals as goal

pub returns : goal.returns
returns c =
    three_more c.args.text.now (failed_head c.args.count) (xml_escaped c.args.failures.now) (codes "</failure>\n</testcase>\n")
    c.add_failed_head.new.text c.add_escaped.new.text c.extend_from_slice.new.self
    c.in_ok-add_failed_head.ensures c.in_ok-add_escaped.ensures c.in_ok-extend_from_slice.ensures
