-- The code of a group as a loop over its operands writes it.
use Rattle.std.specs.Prelude.{ℕ, zero, suc, List, [], ◌∷◌, ◌++◌}
use Rattle.ps_model.specs.Formula.{Formulas, no_operand, operand}
use Rattle.ps_stackvm.specs.declared.instruction.Instruction.{Instruction}
use Rattle.ps_stackvm.specs.Code.{expression_code}

-- what stands after the operand at a place: nothing after the first, and the joining instruction after each later one
abbrev pub join_at : Instruction → (place : ℕ) → List Instruction
join_at join zero = []
join_at join (suc place) = join ∷ []

-- the code of the operands that are left, from this place on
abbrev pub left_code : Instruction → (place : ℕ) → Formulas → List Instruction
left_code join place no_operand = []
left_code join place (operand e es) = expression_code e ++ (join_at join place ++ left_code join (suc place) es)
