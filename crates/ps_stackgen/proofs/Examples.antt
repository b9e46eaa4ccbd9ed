-- Stack code of small applications, as a table of examples.
use Rattle.std.proofs.Common.{◌≡◌, [], ◌∷◌, false, refl}
use Rattle.ps_model.specs.declared.kind.Kind.TheVariants.{Antivalent}
use Rattle.ps_model.specs.Action.{free, literal, time}
use Rattle.ps_model.specs.Blocks.{block, output_count}
use Rattle.ps_model.specs.Budgets.{boolean_count, turns_a}
use Rattle.ps_model.specs.Formula.{signal, all_of, any_of, operand, no_operand}
use Rattle.ps_machine.proofs.Motor.{motor}
use Rattle.ps_stackvm.specs.declared.instruction.Instruction.TheVariants.{Load, Const, And, Or}
use Rattle.ps_stackvm.specs.Code.{expression_code, pins_code, code_a}

-- the 33 bytes of the motor: CONST 1, LOAD 0, CONST 0, CONST 0, LOAD 1, CALL, LOAD 4, LOAD 2, AND, STORE 3, END
motor_code : code_a motor
    ≡ 3 ∷ 1 ∷ 1 ∷ 0 ∷ 0 ∷ 3 ∷ 0 ∷ 3 ∷ 0 ∷ 1 ∷ 0 ∷ 1 ∷ 6 ∷ 0 ∷ 0 ∷ 3 ∷ 0 ∷ 4 ∷ 0 ∷ 0 ∷ 0 ∷ 0
    ∷ 1 ∷ 0 ∷ 4 ∷ 1 ∷ 0 ∷ 2 ∷ 4 ∷ 2 ∷ 0 ∷ 3 ∷ 7 ∷ []
unfolding block output_count boolean_count
motor_code = refl

motor_turns : turns_a motor ≡ 11
unfolding block boolean_count
motor_turns = refl

-- three operands are joined one after another: a b AND c AND
three : expression_code (all_of (operand (signal 0) (operand (signal 1) (operand (signal 2) no_operand))))
    ≡ Load 0 ∷ Load 1 ∷ And ∷ Load 2 ∷ And ∷ []
three = refl

-- an OR within an AND is computed where it stands
mixed : expression_code (all_of (operand (signal 0) (operand (any_of (operand (signal 1) (operand (signal 2) no_operand))) no_operand)))
    ≡ Load 0 ∷ Load 1 ∷ Load 2 ∷ Or ∷ And ∷ []
mixed = refl

-- S_ChannelNO of SF_Antivalent is TRUE where it is free; a TIME pin has no code
antivalent_pins : pins_code Antivalent (free ∷ literal false ∷ free ∷ time 50 ∷ []) ≡ Const 0 ∷ Const 0 ∷ Const 1 ∷ []
unfolding block boolean_count
antivalent_pins = refl
