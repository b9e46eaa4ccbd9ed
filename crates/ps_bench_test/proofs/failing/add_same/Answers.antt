use Rattle.std.proofs.Common.{codes}
use Rattle.ps_bench_test.specs.Failing.{found_text}
use Rattle.ps_bench_test.proofs.Joining.{two_more}
use Rattle.ps_bench_test.proofs.failing.add_same.Goals as goal

pub returns : goal.returns
returns c =
    two_more c.args.text.now (found_text c.args.app.now c.args.name c.args.value) (codes "another value")
    c.add_found.new.text c.extend_from_slice.new.self c.in_ok-add_found.ensures c.in_ok-extend_from_slice.ensures
