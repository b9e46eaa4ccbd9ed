-- Equation code of small applications, and what channel B makes of it, as a table of examples.
use Rattle.std.proofs.Common.{◌≡◌, ℕ, Bool, true, false, List, [], ◌∷◌, ◌++◌, take, refl}
use Rattle.std.specs.Prelude.{replicate}
use Rattle.ps_model.specs.declared.kind.Ty.TheVariants.{Safe}
use Rattle.ps_model.specs.declared.kind.Kind.TheVariants.{Antivalent, Equivalent}
use Rattle.ps_model.specs.Action.{Actual, free, literal, time, wired, assigns, calls}
use Rattle.ps_model.specs.Blocks.{block, next, latched, outs, output_count}
use Rattle.ps_model.specs.Budgets.{boolean_count, turns_b}
use Rattle.ps_model.specs.Formula.{signal, all_of, any_of, operand, no_operand}
use Rattle.ps_model.specs.Network.{Network}
use Rattle.ps_machine.specs.Kinds.{kind_of}
use Rattle.ps_machine.specs.Machines.{turned}
use Rattle.ps_machine.proofs.Motor.{motor}
use Rattle.ps_eqvm.specs.Code.{work, expression_rows, operand_at, pins_rows, pins_operands, code_b}
use Rattle.ps_eqvm.specs.Plain.{Plain, blank}
use Rattle.ps_eqvm.specs.Rows.{set_row, all_row, any_row}
use Rattle.ps_eqvm.specs.Turn.{turn_plain, begin_plain}

-- the 37 bytes of the motor: BLOCK, SET work cell 0, ALL work cell 0, SET 3, LAST
motor_code : code_b motor
    ≡ 0xF4 ∷ 0 ∷ 0 ∷ 3 ∷ 0 ∷ 4 ∷ 0 ∷ 0 ∷ 0 ∷ 0 ∷ 5 ∷ 0xFF ∷ 0xFF ∷ 0 ∷ 0 ∷ 0xFF ∷ 0xFE ∷ 0xFF ∷ 0xFE ∷ 0 ∷ 1
    ∷ 0xF1 ∷ 0xF0 ∷ 0 ∷ 0 ∷ 4 ∷ 0xF2 ∷ 0xF0 ∷ 0 ∷ 0 ∷ 2 ∷ 0xF1 ∷ 0 ∷ 3 ∷ 0xF0 ∷ 0 ∷ 0xF0 ∷ []
unfolding block output_count boolean_count
motor_code = refl

motor_turns : turns_b motor ≡ 5
unfolding block boolean_count
motor_turns = refl

-- a scan of it, of 7 signals and 1 instance
abbrev motor_scan : (now : ℕ) (ins : List Bool) → Plain → Plain
motor_scan now ins p = turned (turn_plain 7 1 (code_b motor)) 5 (begin_plain now ins p)

-- four scans: the emergency stop is waited for, acknowledged in the last one, and the motor is on
motor_runs : motor_scan 30 (true ∷ true ∷ true ∷ []) (motor_scan 20 (true ∷ false ∷ true ∷ []) (motor_scan 10 (true ∷ false ∷ true ∷ []) (motor_scan 0 (true ∷ false ∷ true ∷ []) (blank 55 16))))
    ≡ record { offset = 37; progress = 1; last = 30; passed = 10; cells = 1 ∷ (replicate 47 0 ++ (1 ∷ 1 ∷ 1 ∷ 1 ∷ 1 ∷ 1 ∷ 0 ∷ [])); blocks = 0x80 ∷ 0 ∷ 1 ∷ replicate 13 0 }
unfolding block next latched outs output_count boolean_count kind_of
motor_runs = refl

-- three operands are joined one after another in work cell 0
three : expression_rows 0 (all_of (operand (signal 0) (operand (signal 1) (operand (signal 2) no_operand))))
    ≡ set_row (work 0) 0 ∷ all_row (work 0) 1 ∷ all_row (work 0) 2 ∷ []
three = refl

-- an OR within an AND is placed a level deeper, before it is joined
mixed : expression_rows 0 (all_of (operand (signal 0) (operand (any_of (operand (signal 1) (operand (signal 2) no_operand))) no_operand)))
    ≡ set_row (work 0) 0 ∷ set_row (work 1) 1 ∷ any_row (work 1) 2 ∷ all_row (work 0) (work 1) ∷ []
mixed = refl

-- a signal needs no row, and is its own operand
alone : operand_at 3 (signal 7) ≡ 7
alone = refl

-- S_ChannelNO of SF_Antivalent is TRUE where it is free; a TIME pin has no operand
antivalent_pins : pins_operands Antivalent (free ∷ literal false ∷ free ∷ time 50 ∷ []) ≡ 0xFFFE ∷ 0xFFFE ∷ 0xFFFF ∷ []
unfolding block boolean_count
antivalent_pins = refl

-- the value at pin 1 is placed at level 1, and that at pin 2 at level 2
leveled_pins : pins_rows Equivalent (literal true ∷ wired (all_of (operand (signal 0) (operand (signal 1) no_operand))) ∷ wired (any_of (operand (signal 0) (operand (signal 1) no_operand))) ∷ free ∷ [])
    ≡ set_row (work 1) 0 ∷ all_row (work 1) 1 ∷ set_row (work 2) 0 ∷ any_row (work 2) 1 ∷ []
unfolding block boolean_count
leveled_pins = refl

-- ---- an SF_Equivalent with its channels wired to two inputs, and this at its DiscrepancyTime
abbrev pair : Actual → Network
pair limit = record {
  name = [];
  inputs = record { name = []; ty = Safe } ∷ record { name = []; ty = Safe } ∷ [];
  outputs = record { name = []; ty = Safe } ∷ [];
  locals = [];
  instances = record { name = []; kind = Equivalent } ∷ [];
  steps = calls 0 (literal true ∷ wired (signal 0) ∷ wired (signal 1) ∷ limit ∷ []) ∷ assigns 2 (signal 3) ∷ [];
}

-- a scan of it, of 6 signals and 1 instance
abbrev pair_scan : Actual → (now : ℕ) (a b : Bool) → Plain → Plain
pair_scan limit now a b p = turned (turn_plain 6 1 (code_b (pair limit))) 3 (begin_plain now (a ∷ b ∷ []) p)

-- one channel comes at 10 ms
waits : Plain
waits = pair_scan (time 50) 10 true false (pair_scan (time 50) 0 false false (blank 54 16))

-- then 50 ms remain
waiting : waits.blocks ≡ 0x80 ∷ 0x04 ∷ 0 ∷ 0 ∷ 0 ∷ 0 ∷ 0 ∷ 0 ∷ 50 ∷ replicate 7 0
unfolding waits block next latched outs output_count boolean_count kind_of
waiting = refl

-- the other one 50 ms later is too late, and 49 ms later in time
late : take 2 (pair_scan (time 50) 60 true true waits).blocks ≡ 0xC0 ∷ 0x01 ∷ []
unfolding waits block next latched outs output_count boolean_count kind_of
late = refl

in_time : take 2 (pair_scan (time 50) 59 true true waits).blocks ≡ 0x80 ∷ 0x00 ∷ []
unfolding waits block next latched outs output_count boolean_count kind_of
in_time = refl

-- with no limit the wait ends at once
limit_zero : take 2 (pair_scan free 5 true false (pair_scan free 5 true false (pair_scan free 5 true false (blank 54 16)))).blocks ≡ 0xC0 ∷ 0x01 ∷ []
unfolding block next latched outs output_count boolean_count kind_of
limit_zero = refl
