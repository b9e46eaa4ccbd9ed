use Rattle.std.proofs.Common.{codes}
use Rattle.ps_bench_never.specs.Telling.{head_text}
use Rattle.ps_bench_never.proofs.JoiningAny.{three_more}
use Rattle.ps_bench_never.proofs.telling_any.add_wide.Goals as goal

pub returns : goal.returns
returns c =
    three_more c.extend_from_slice-2.result c.args.text.now (codes "OPEN ") (head_text c.args.file.now c.args.rule.now)
    (codes ": over 31 free inputs and timers; no case was found 10, 100 or 1000 ms apart\n")
    c.extend_from_slice.new.self c.add_head.new.text c.extend_from_slice-2.new.self
    c.in_ok-extend_from_slice.ensures c.in_ok-add_head.ensures c.extend_from_slice-2.ensures
