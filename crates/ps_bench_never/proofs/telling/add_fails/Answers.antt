use Rattle.std.proofs.Common.{codes}
use Rattle.ps_bench_never.specs.Telling.{count_text, head_text}
use Rattle.ps_bench_never.proofs.JoiningAny.{five_more}
use Rattle.ps_bench_never.proofs.telling.add_fails.Goals as goal

pub returns : goal.returns
returns c =
    five_more c.extend_from_slice-3.result c.args.text.now (codes "FAILS ") (head_text c.args.file.now c.args.rule.now) (codes ", in ")
    (count_text c.args.scans (codes "scan")) (codes ":\n") c.extend_from_slice.new.self c.add_head.new.text c.extend_from_slice-2.new.self
    c.add_count.new.text c.extend_from_slice-3.new.self c.in_ok-extend_from_slice.ensures c.in_ok-add_head.ensures
    c.in_ok-extend_from_slice-2.ensures c.in_ok-add_count.ensures c.extend_from_slice-3.ensures
