use Rattle.std.proofs.Common.{codes}
use Rattle.ps_bench_frame.specs.Pieces.{shown}
use Rattle.ps_bench_test.specs.Junit.{attribute, case_name}
use Rattle.ps_bench_test.proofs.Joining.{two_more}
use Rattle.ps_bench_test.proofs.junit.add_case_head.Goals as goal

pub returns : goal.returns
returns c =
    two_more c.args.text.now (case_name c.args.name.now) (attribute (codes "classname") (shown c.args.file.now))
    c.add_case_name.new.text c.add_file_name.new.text c.in_ok-add_case_name.ensures c.in_ok-add_file_name.ensures
