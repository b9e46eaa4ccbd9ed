-- Decision code of small applications, and turns at the bounds of every trap, as tables of examples.
use Rattle.std.proofs.Common.{◌≡◌, ℕ, List, [], ◌∷◌, false, refl}
use Rattle.std.specs.Prelude.{replicate, slice_set}
use Rattle.ps_model.specs.declared.kind.Kind.TheVariants.{Antivalent}
use Rattle.ps_model.specs.Action.{free, literal, time}
use Rattle.ps_model.specs.Blocks.{block, output_count}
use Rattle.ps_model.specs.Budgets.{boolean_count}
use Rattle.ps_model.specs.Formula.{signal, all_of, any_of, operand, no_operand}
use Rattle.ps_machine.specs.Kinds.{kind_of}
use Rattle.ps_machine.proofs.Motor.{motor}
use Rattle.ps_decision.specs.declared.row.Row.TheVariants.{Decide, Set}
use Rattle.ps_decision.specs.Budget.{turns_c}
use Rattle.ps_decision.specs.Cells.{offset_of, progress_of}
use Rattle.ps_decision.specs.Code.{value_rows, pins_rows, code_c}
use Rattle.ps_decision.specs.Turn.{turn_of}

-- the 127 bytes of the motor, row by row
motor_code : code_c motor
    ≡ 2 ∷ 240 ∷ 0 ∷ 1 ∷ 0 ∷ 0 ∷ 0 ∷ 8
    ∷ 1 ∷ 0 ∷ 0 ∷ 0 ∷ 0 ∷ 0 ∷ 19 ∷ 0 ∷ 0 ∷ 0 ∷ 27
    ∷ 2 ∷ 240 ∷ 1 ∷ 1 ∷ 0 ∷ 0 ∷ 0 ∷ 35
    ∷ 2 ∷ 240 ∷ 1 ∷ 0 ∷ 0 ∷ 0 ∷ 0 ∷ 35
    ∷ 2 ∷ 240 ∷ 2 ∷ 0 ∷ 0 ∷ 0 ∷ 0 ∷ 43
    ∷ 2 ∷ 240 ∷ 3 ∷ 0 ∷ 0 ∷ 0 ∷ 0 ∷ 51
    ∷ 1 ∷ 0 ∷ 1 ∷ 0 ∷ 0 ∷ 0 ∷ 62 ∷ 0 ∷ 0 ∷ 0 ∷ 70
    ∷ 2 ∷ 240 ∷ 4 ∷ 1 ∷ 0 ∷ 0 ∷ 0 ∷ 78
    ∷ 2 ∷ 240 ∷ 4 ∷ 0 ∷ 0 ∷ 0 ∷ 0 ∷ 78
    ∷ 3 ∷ 0 ∷ 0 ∷ 3 ∷ 0 ∷ 4 ∷ 0 ∷ 0 ∷ 0 ∷ 0
    ∷ 1 ∷ 0 ∷ 4 ∷ 0 ∷ 0 ∷ 0 ∷ 99 ∷ 0 ∷ 0 ∷ 0 ∷ 118
    ∷ 1 ∷ 0 ∷ 2 ∷ 0 ∷ 0 ∷ 0 ∷ 110 ∷ 0 ∷ 0 ∷ 0 ∷ 118
    ∷ 2 ∷ 0 ∷ 3 ∷ 1 ∷ 0 ∷ 0 ∷ 0 ∷ 126
    ∷ 2 ∷ 0 ∷ 3 ∷ 0 ∷ 0 ∷ 0 ∷ 0 ∷ 126
    ∷ 4 ∷ []
unfolding block output_count boolean_count
motor_code = refl

motor_turns : turns_c motor ≡ 15
unfolding block boolean_count
motor_turns = refl

-- s0 AND (s1 OR s2): the OR is the last operand, and has both places of the AND
mixed : value_rows (all_of (operand (signal 0) (operand (any_of (operand (signal 1) (operand (signal 2) no_operand))) no_operand))) 0 33 41
    ≡ Decide 0 11 41 ∷ Decide 1 33 22 ∷ Decide 2 33 41 ∷ []
mixed = refl

-- (s1 OR s2) AND s0: the OR is not the last operand, so it is gone on with s0 where it is TRUE
mixed_first : value_rows (all_of (operand (any_of (operand (signal 1) (operand (signal 2) no_operand))) (operand (signal 0) no_operand))) 0 33 41
    ≡ Decide 1 22 11 ∷ Decide 2 22 41 ∷ Decide 0 33 41 ∷ []
mixed_first = refl

-- S_ChannelNO of SF_Antivalent is TRUE where it is free; a TIME pin has no row
antivalent_pins : pins_rows Antivalent (free ∷ literal false ∷ free ∷ time 50 ∷ []) 0 ≡ Set 61440 0 8 ∷ Set 61441 0 16 ∷ Set 61442 1 24 ∷ []
unfolding block boolean_count
antivalent_pins = refl

-- ---- one turn with seven signals and one instance, from cells of 0 but for some: the progress byte after it

-- cells of 0
abbrev blank : List ℕ
blank = replicate 45 0

-- the progress byte after a turn
abbrev says : (code cells : List ℕ) → ℕ
says code cells = progress_of (turn_of 7 1 code cells)

end_done : says (4 ∷ []) blank ≡ 1
end_done = refl

past_the_end : says (4 ∷ []) (slice_set blank 3 1) ≡ 3
past_the_end = refl

no_opcode_below : says (0 ∷ []) blank ≡ 2
no_opcode_below = refl

no_opcode_above : says (5 ∷ []) blank ≡ 2
no_opcode_above = refl

decide_whole : says (1 ∷ 0 ∷ 6 ∷ 0 ∷ 0 ∷ 0 ∷ 0 ∷ 0 ∷ 0 ∷ 0 ∷ 0 ∷ []) blank ≡ 0
decide_whole = refl

decide_cut : says (1 ∷ 0 ∷ 7 ∷ 0 ∷ 0 ∷ 0 ∷ 0 ∷ 0 ∷ 0 ∷ 0 ∷ []) blank ≡ 3
decide_cut = refl

decide_past_the_signals : says (1 ∷ 0 ∷ 7 ∷ 0 ∷ 0 ∷ 0 ∷ 0 ∷ 0 ∷ 0 ∷ 0 ∷ 0 ∷ []) blank ≡ 6
decide_past_the_signals = refl

decide_last_pin_cell : says (1 ∷ 240 ∷ 12 ∷ 0 ∷ 0 ∷ 0 ∷ 0 ∷ 0 ∷ 0 ∷ 0 ∷ 0 ∷ []) blank ≡ 0
decide_last_pin_cell = refl

decide_past_the_pin_cells : says (1 ∷ 240 ∷ 13 ∷ 0 ∷ 0 ∷ 0 ∷ 0 ∷ 0 ∷ 0 ∷ 0 ∷ 0 ∷ []) blank ≡ 6
decide_past_the_pin_cells = refl

decide_on_two : says (1 ∷ 0 ∷ 6 ∷ 0 ∷ 0 ∷ 0 ∷ 0 ∷ 0 ∷ 0 ∷ 0 ∷ 0 ∷ []) (slice_set blank 28 2) ≡ 5
decide_on_two = refl

-- a place past the code's end is no trap; the next turn traps
decide_far : offset_of (turn_of 7 1 (1 ∷ 0 ∷ 6 ∷ 255 ∷ 255 ∷ 255 ∷ 255 ∷ 0 ∷ 0 ∷ 0 ∷ 9 ∷ []) (slice_set blank 28 1)) ≡ 4294967295
decide_far = refl

set_whole : says (2 ∷ 0 ∷ 6 ∷ 1 ∷ 0 ∷ 0 ∷ 0 ∷ 0 ∷ []) blank ≡ 0
set_whole = refl

set_cut : says (2 ∷ 0 ∷ 7 ∷ 2 ∷ 0 ∷ 0 ∷ 0 ∷ []) blank ≡ 3
set_cut = refl

set_two : says (2 ∷ 0 ∷ 6 ∷ 2 ∷ 0 ∷ 0 ∷ 0 ∷ 0 ∷ []) blank ≡ 5
set_two = refl

set_two_past_the_signals : says (2 ∷ 0 ∷ 7 ∷ 2 ∷ 0 ∷ 0 ∷ 0 ∷ 0 ∷ []) blank ≡ 6
set_two_past_the_signals = refl

call_cut : says (3 ∷ 0 ∷ 1 ∷ 3 ∷ 0 ∷ 4 ∷ 0 ∷ 0 ∷ 0 ∷ []) blank ≡ 3
call_cut = refl

call_past_the_instances : says (3 ∷ 0 ∷ 1 ∷ 3 ∷ 0 ∷ 5 ∷ 0 ∷ 0 ∷ 0 ∷ 0 ∷ []) blank ≡ 7
call_past_the_instances = refl

call_of_no_kind : says (3 ∷ 0 ∷ 0 ∷ 14 ∷ 0 ∷ 5 ∷ 0 ∷ 0 ∷ 0 ∷ 0 ∷ []) blank ≡ 7
unfolding kind_of block
call_of_no_kind = refl

call_whole : says (3 ∷ 0 ∷ 0 ∷ 3 ∷ 0 ∷ 4 ∷ 0 ∷ 0 ∷ 0 ∷ 0 ∷ []) blank ≡ 0
unfolding kind_of block output_count boolean_count
call_whole = refl

call_outputs_past_the_signals : says (3 ∷ 0 ∷ 0 ∷ 3 ∷ 0 ∷ 5 ∷ 0 ∷ 0 ∷ 0 ∷ 0 ∷ []) (slice_set blank 13 2) ≡ 6
unfolding kind_of block output_count
call_outputs_past_the_signals = refl

call_with_an_odd_pin : says (3 ∷ 0 ∷ 0 ∷ 3 ∷ 0 ∷ 4 ∷ 0 ∷ 0 ∷ 0 ∷ 0 ∷ []) (slice_set (slice_set blank 13 2) 29 1) ≡ 5
unfolding kind_of block output_count boolean_count
call_with_an_odd_pin = refl

call_with_an_odd_byte_past_its_pins : says (3 ∷ 0 ∷ 0 ∷ 3 ∷ 0 ∷ 4 ∷ 0 ∷ 0 ∷ 0 ∷ 0 ∷ []) (slice_set blank 14 2) ≡ 0
unfolding kind_of block output_count boolean_count
call_with_an_odd_byte_past_its_pins = refl

call_of_no_state : says (3 ∷ 0 ∷ 0 ∷ 3 ∷ 0 ∷ 4 ∷ 0 ∷ 0 ∷ 0 ∷ 0 ∷ []) (slice_set blank 29 1) ≡ 8
unfolding kind_of block output_count boolean_count
call_of_no_state = refl
