use Rattle.std.proofs.Common.{codes}
use Rattle.ps_bench_frame.specs.Pieces.{shown}
use Rattle.ps_bench_never.proofs.JoiningAny.{two_more}
use Rattle.ps_bench_never.proofs.same_telling.add_expects.Goals as goal

pub returns : goal.returns
returns c =
    two_more c.add_shown.result c.args.text.now (codes "# it expects the outputs of ") (shown c.args.compared.now.name.now)
    c.extend_from_slice.new.self c.add_shown.new.text c.in_ok-extend_from_slice.ensures c.add_shown.ensures
