use Rattle.std.proofs.Common.{◌≡◌, drop, map}
use Rattle.ps_model.specs.Formula.{value, all_true, any_true}
use Rattle.ps_model.specs.Exprs.{formula, operands}
use Rattle.ps_machine.specs.Reading.{read_in}
use Rattle.ps_machine.proofs.reading.+read_value.Given as goal

abbrev pub decreases-read_value : goal.decreases-read_value
decreases-read_value l = goal.size-read_value l

-- the operands that are left decide
abbrev pub invariant-loop-x : goal.invariant-loop-x
invariant-loop-x l =
    value (read_in l.fn.app l.fn.signals l.fn.k) (formula l.fn.e)
    ≡ all_true (read_in l.fn.app l.fn.signals l.fn.k) (operands (map formula (drop l.x-index l.x-items)))

abbrev pub invariant-loop-x-2 : goal.invariant-loop-x-2
invariant-loop-x-2 l =
    value (read_in l.fn.app l.fn.signals l.fn.k) (formula l.fn.e)
    ≡ any_true (read_in l.fn.app l.fn.signals l.fn.k) (operands (map formula (drop l.x-index l.x-items)))
