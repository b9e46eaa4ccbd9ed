use Rattle.std.proofs.Common.{◌≡◌, ◌++◌, drop, map}
use Rattle.ps_model.specs.Exprs.{formula, operands}
use Rattle.ps_stackvm.specs.Code.{bytes_of}
use Rattle.ps_stackgen.specs.Written.{left_code}
use Rattle.ps_stackgen.proofs.emit.+expr.Given as goal

-- what is written and what the operands that are left will write are the whole
abbrev pub invariant-emit_group-loop-place : goal.invariant-emit_group-loop-place
invariant-emit_group-loop-place l =
    l.code.items ++ bytes_of (left_code l.join l.place (operands (map formula (drop l.place l.all))))
    ≡ l.initial.code.items ++ bytes_of (left_code l.join 0 (operands (map formula l.all)))
