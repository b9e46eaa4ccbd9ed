use Rattle.std.proofs.Common.{codes}
use Rattle.ps_bench_frame.specs.Pieces.{count_text}
use Rattle.ps_bench_never.proofs.JoiningAny.{three_more}
use Rattle.ps_bench_never.proofs.casing.add_late.Goals as goal

pub returns : goal.returns
returns c =
    three_more c.extend_from_slice-2.result c.args.text.now (codes ": a shortest case has ") (count_text c.args.scans (codes "scan"))
    (codes ", whose times would pass 4294967295 ms\n") c.extend_from_slice.new.self c.add_count.new.text c.extend_from_slice-2.new.self
    c.in_ok-extend_from_slice.ensures c.in_ok-add_count.ensures c.extend_from_slice-2.ensures
