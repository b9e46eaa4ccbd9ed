use Rattle.std.proofs.Common.{◌∙◌, arith}
use Rattle.ps_trace.proofs.SaidLemmas.{plain_said}
use Rattle.ps_trace.proofs.scan_line.read_line.Goals as goal

pub returns-in-Some-clause-says : goal.returns-in-Some-clause-says
returns-in-Some-clause-says c =
    plain_said _ _ c.in-Some.now _ _ c.in-Some.ensures (omega arith) ∙ c.judge_time.ensures.says c.read_plain.new.values
