use Rattle.std.proofs.Common.{codes}
use Rattle.ps_bench_frame.specs.Pieces.{count_text}
use Rattle.ps_bench_test.proofs.Joining.{three_more}
use Rattle.ps_bench_test.proofs.junit.add_failed_head.Goals as goal

pub returns : goal.returns
returns c =
    three_more c.args.text.now (codes ">\n<failure message=\"") (count_text c.args.count (codes "failure")) (codes "\">\n")
    c.extend_from_slice.new.self c.add_count.new.text c.extend_from_slice-2.new.self
    c.in_ok-extend_from_slice.ensures c.in_ok-add_count.ensures c.in_ok-extend_from_slice-2.ensures
