use Rattle.std.proofs.Common.{◌≡◌, ◌+◌, ◌≤◌, ◌++◌, drop, map}
use Rattle.ps_model.specs.Exprs.{formula, operands}
use Rattle.ps_model.specs.Values.{deepest}
use Rattle.ps_eqvm.specs.declared.layout.TheConstants.{WORK_CELLS}
use Rattle.ps_eqvm.specs.Code.{bytes_of}
use Rattle.ps_eqvm.specs.declared.opcode.Gate.TheVariants.{Set}
use Rattle.ps_eqgen.specs.Written.{rows_left}
use Rattle.ps_eqgen.proofs.emit.+expr.Given as goal

-- what is written and what the operands that are left will write are the whole
abbrev pub invariant-emit_group-loop-x : goal.invariant-emit_group-loop-x
invariant-emit_group-loop-x l = record {
  written : l.code.items ++ bytes_of (rows_left l.level l.gate l.join (operands (map formula (drop l.x-index l.all))))
      ≡ l.initial.code.items ++ bytes_of (rows_left l.level Set l.join (operands (map formula l.all)));
  low : l.level + 1 + deepest (operands (map formula (drop l.x-index l.all))) ≤ WORK_CELLS;
}
