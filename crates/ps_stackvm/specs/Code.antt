-- The stack code of an application (profile).
use Rattle.std.specs.Prelude.{ℕ, Bool, List, [], ◌∷◌, ◌++◌, slice_index_or}
use Rattle.std.specs.List.{flat_map, range_with_len}
use Rattle.std.specs.Int.{w16, w32, to_be_bytes}
use Rattle.ps_model.specs.declared.kind.Kind.{Kind}
use Rattle.ps_model.specs.Formula.{Formula, Formulas, signal, all_of, any_of, no_operand, operand}
use Rattle.ps_model.specs.Action.{Action, Actual, free, literal, time, wired, assigns, calls}
use Rattle.ps_model.specs.Blocks.{block}
use Rattle.ps_model.specs.Budgets.{boolean_count}
use Rattle.ps_model.specs.Network.{Network, kind_at, first_pin}
use Rattle.ps_model.specs.Scanning.{pin_at, limit_of}
use Rattle.ps_machine.specs.Bytes.{bit}
use Rattle.ps_stackvm.specs.declared.instruction.Instruction.{Instruction}
use Rattle.ps_stackvm.specs.declared.instruction.Instruction.TheVariants.{Load, Store, Const, And, Or, Call, End}

-- the bytes of an instruction: its opcode, and its numbers big-endian
abbrev pub encoded : Instruction → List ℕ
encoded (Load c) = 1 ∷ to_be_bytes w16 c
encoded (Store c) = 2 ∷ to_be_bytes w16 c
encoded (Const byte) = 3 ∷ byte ∷ []
encoded And = 4 ∷ []
encoded Or = 5 ∷ []
encoded (Call instance kind first limit) = 6 ∷ (to_be_bytes w16 instance ++ (kind ∷ (to_be_bytes w16 first ++ to_be_bytes w32 limit)))
encoded End = 7 ∷ []

-- the bytes of instructions one after another
abbrev pub bytes_of : List Instruction → List ℕ
bytes_of is = flat_map encoded is

-- a signal is loaded; the operands of an AND or OR are computed one after another, and each but the first is joined to
-- what stands there
abbrev mutual
  pub expression_code : Formula → List Instruction
  expression_code (signal s) = Load s ∷ []
  expression_code (all_of es) = group_code And es
  expression_code (any_of es) = group_code Or es

  -- the code of a group: its first operand, and then the others
  pub group_code : Instruction → Formulas → List Instruction
  group_code join no_operand = []
  group_code join (operand e es) = expression_code e ++ later_code join es

  -- the code of the operands after the first, each joined to what stands before it
  pub later_code : Instruction → Formulas → List Instruction
  later_code join no_operand = []
  later_code join (operand e es) = expression_code e ++ (join ∷ later_code join es)

-- what stands at a Boolean pin: a value is computed, and all else is a constant; a TIME literal is FALSE there
abbrev pub pin_code : Bool → Actual → List Instruction
pin_code default free = Const (bit default) ∷ []
pin_code default (literal b) = Const (bit b) ∷ []
pin_code default (time t) = Const 0 ∷ []
pin_code default (wired e) = expression_code e

-- Boolean pin j of a call
abbrev pub code_at_pin : Kind → List Actual → ℕ → List Instruction
code_at_pin kind args j = pin_code (pin_at kind j).free (slice_index_or args j free)

-- the Boolean pins of a call in order
abbrev pub pins_code : Kind → List Actual → List Instruction
pins_code kind args = flat_map (code_at_pin kind args) (range_with_len 0 (boolean_count kind))

-- a value and the store of its target, or the pins and the call
abbrev pub step_code : Network → Action → List Instruction
step_code net (assigns t e) = expression_code e ++ Store t ∷ []
step_code net (calls i args) =
    pins_code (kind_at net i) args ++ Call i (block (kind_at net i)).number (first_pin net i) (limit_of (kind_at net i) args) ∷ []

-- all steps in order, and the instruction that ends the scan
abbrev pub network_code : Network → List Instruction
network_code net = flat_map (step_code net) net.steps ++ End ∷ []

-- the code bytes of channel A
abbrev pub code_a : Network → List ℕ
code_a net = bytes_of (network_code net)
