use Rattle.std.proofs.Common.{◌≡◌, map}
use Rattle.std.specs.List.{range_with_len}
use Rattle.ps_why.specs.Below.{first_line}
use Rattle.ps_why.proofs.lines.first_lines.Given as goal

-- the lines of the facts so far
abbrev pub invariant-loop-fact : goal.invariant-loop-fact
invariant-loop-fact l = l.lines.items ≡ map first_line (range_with_len 0 l.fact)
