use Rattle.std.proofs.Common.{◌≡◌, ◌++◌, drop}
use Rattle.ps_flow.specs.Written.{line_text}
use Rattle.ps_flow.proofs.Spelling.{premises_text}
use Rattle.ps_flow.proofs.text.write_line.Given as goal

-- the premises that are left are still to be written
abbrev pub invariant-loop-premise : goal.invariant-loop-premise
invariant-loop-premise l = l.text ++ premises_text (drop l.premise-index l.premise-items) ≡ l.fn.text ++ line_text l.fn.line
