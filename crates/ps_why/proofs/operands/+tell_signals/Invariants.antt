use Rattle.std.proofs.Common.{◌≡◌, ◌⊎◌, ◌++◌, drop, false, map}
use Rattle.std.specs.Prelude.{slice_index_or}
use Rattle.ps_model.specs.Exprs.{formula, operands}
use Rattle.ps_model.specs.Formula.{all_of, any_of}
use Rattle.ps_why.specs.Reasons.{deciding_with}
use Rattle.ps_why.proofs.operands.+tell_signals.Given as goal

abbrev pub decreases-tell_signals : goal.decreases-tell_signals
decreases-tell_signals l = goal.size-tell_signals l

-- the operands so far are told, and those that are left
abbrev pub invariant-loop-x : goal.invariant-loop-x
invariant-loop-x l = record {
  of : (formula l.fn.e ≡ all_of (operands (map formula l.x-items))) ⊎ (formula l.fn.e ≡ any_of (operands (map formula l.x-items)));
  told : l.told.items ++ deciding_with (λ s. slice_index_or l.signals s false) l.whole (operands (map formula (drop l.x-index l.x-items)))
      ≡ l.fn.told.items ++ deciding_with (λ s. slice_index_or l.signals s false) l.whole (operands (map formula l.x-items));
}
