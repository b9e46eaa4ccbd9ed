use Rattle.std.proofs.Common.{codes}
use Rattle.ps_bench_never.specs.Casing.{late_text}
use Rattle.ps_bench_never.specs.Telling.{head_text}
use Rattle.ps_bench_never.proofs.JoiningAny.{three_more}
use Rattle.ps_bench_never.proofs.telling.add_passing.Goals as goal

pub returns : goal.returns
returns c =
    three_more c.add_late.result c.args.text.now (codes "OPEN ") (head_text c.args.file.now c.args.rule.now) (late_text c.args.scans)
    c.extend_from_slice.new.self c.add_head.new.text c.add_late.new.text c.in_ok-extend_from_slice.ensures c.in_ok-add_head.ensures
    c.add_late.ensures
