-- The equation code of an application (profile).
use Rattle.std.specs.Prelude.{ℕ, ◌+◌, Bool, true, false, List, [], ◌∷◌, ◌++◌, length, map, slice_index_or}
use Rattle.std.specs.List.{flat_map, range_with_len}
use Rattle.std.specs.Int.{w16, w32, to_be_bytes}
use Rattle.ps_model.specs.declared.kind.Kind.{Kind}
use Rattle.ps_model.specs.Formula.{Formula, Formulas, signal, all_of, any_of, no_operand, operand}
use Rattle.ps_model.specs.Action.{Action, Actual, free, literal, time, wired, assigns, calls}
use Rattle.ps_model.specs.Blocks.{block}
use Rattle.ps_model.specs.Budgets.{boolean_count}
use Rattle.ps_model.specs.Network.{Network, kind_at, first_pin}
use Rattle.ps_model.specs.Scanning.{pin_at, limit_of}
use Rattle.ps_eqvm.specs.declared.opcode.Gate.TheVariants.{Set, All, Any}
use Rattle.ps_eqvm.specs.declared.opcode.Opcode.TheVariants.{Last, Target, Block}
use Rattle.ps_eqvm.specs.declared.operand.TheConstants.{FIRST_WORK_CELL, FALSE, TRUE}
use Rattle.ps_eqvm.specs.Opcodes.{byte_of_opcode}
use Rattle.ps_eqvm.specs.Rows.{EquationRow, last_row, set_row, all_row, any_row, block_row}

-- the bytes of a row: its opcode, and its numbers big-endian
abbrev pub encoded : EquationRow → List ℕ
encoded last_row = byte_of_opcode Last ∷ []
encoded (set_row t c) = byte_of_opcode (Target Set) ∷ (to_be_bytes w16 t ++ to_be_bytes w16 c)
encoded (all_row t c) = byte_of_opcode (Target All) ∷ (to_be_bytes w16 t ++ to_be_bytes w16 c)
encoded (any_row t c) = byte_of_opcode (Target Any) ∷ (to_be_bytes w16 t ++ to_be_bytes w16 c)
encoded (block_row instance kind first limit pins) =
    byte_of_opcode Block ∷ (to_be_bytes w16 instance ++ (kind ∷ (to_be_bytes w16 first ++ (to_be_bytes w32 limit ++ (length pins ∷ flat_map (to_be_bytes w16) pins)))))

-- the bytes of rows in order
abbrev pub bytes_of : List EquationRow → List ℕ
bytes_of rows = flat_map encoded rows

-- the operand that is work cell d
abbrev pub work : ℕ → ℕ
work d = FIRST_WORK_CELL + d

-- the operand that is a constant
abbrev pub constant_of : Bool → ℕ
constant_of true = TRUE
constant_of false = FALSE

-- the operand that has the value of an expression placed at level d: a signal is its own, and an AND or OR has its
-- value in work cell d
abbrev pub operand_at : ℕ → Formula → ℕ
operand_at d (signal s) = s
operand_at d (all_of es) = work d
operand_at d (any_of es) = work d

-- The rows that place an expression at level d. A signal needs none. Of an AND or OR each operand is placed at level d
-- + 1; then the first is set into work cell d, and each later one joined to it.
abbrev mutual
  pub expression_rows : ℕ → Formula → List EquationRow
  expression_rows d (signal s) = []
  expression_rows d (all_of es) = group_rows d all_row es
  expression_rows d (any_of es) = group_rows d any_row es

  -- the rows of a group: its first operand is set into work cell d, and then come the others
  pub group_rows : ℕ → (join : ℕ → ℕ → EquationRow) → Formulas → List EquationRow
  group_rows d join no_operand = []
  group_rows d join (operand e es) = expression_rows (d + 1) e ++ (set_row (work d) (operand_at (d + 1) e) ∷ later_rows d join es)

  -- the rows of the operands after the first, each joined to work cell d
  pub later_rows : ℕ → (join : ℕ → ℕ → EquationRow) → Formulas → List EquationRow
  later_rows d join no_operand = []
  later_rows d join (operand e es) = expression_rows (d + 1) e ++ (join (work d) (operand_at (d + 1) e) ∷ later_rows d join es)

-- the rows of what stands at a Boolean pin, at the pin's level: a value is placed, and all else is a constant; a TIME
-- literal is FALSE there
abbrev pub pin_rows : ℕ → Actual → List EquationRow
pin_rows d (wired e) = expression_rows d e
pin_rows d _ = []

-- the operand of what stands at a Boolean pin, at the pin's level
abbrev pub pin_operand : (default : Bool) → ℕ → Actual → ℕ
pin_operand default d free = constant_of default
pin_operand default d (literal b) = constant_of b
pin_operand default d (time t) = constant_of false
pin_operand default d (wired e) = operand_at d e

-- the rows of Boolean pin j of a call, which is at level j
abbrev pub rows_at : List Actual → ℕ → List EquationRow
rows_at args j = pin_rows j (slice_index_or args j free)

-- the operand of Boolean pin j of a call
abbrev pub operand_of_pin : Kind → List Actual → ℕ → ℕ
operand_of_pin kind args j = pin_operand (pin_at kind j).free j (slice_index_or args j free)

-- the rows of the Boolean pins of a call, in order
abbrev pub pins_rows : Kind → List Actual → List EquationRow
pins_rows kind args = flat_map (rows_at args) (range_with_len 0 (boolean_count kind))

-- the operands of the Boolean pins of a call, in order
abbrev pub pins_operands : Kind → List Actual → List ℕ
pins_operands kind args = map (operand_of_pin kind args) (range_with_len 0 (boolean_count kind))

-- the BLOCK row of a call
abbrev pub call_row : Network → ℕ → List Actual → EquationRow
call_row net i args =
    block_row i (block (kind_at net i)).number (first_pin net i) (limit_of (kind_at net i) args) (pins_operands (kind_at net i) args)

-- a value at level 0 and the SET of its target, or the pins and the BLOCK
abbrev pub step_rows : Network → Action → List EquationRow
step_rows net (assigns t e) = expression_rows 0 e ++ set_row t (operand_at 0 e) ∷ []
step_rows net (calls i args) = pins_rows (kind_at net i) args ++ call_row net i args ∷ []

-- all steps in order, and the row that ends the scan
abbrev pub network_rows : Network → List EquationRow
network_rows net = flat_map (step_rows net) net.steps ++ last_row ∷ []

-- the code bytes of channel B
abbrev pub code_b : Network → List ℕ
code_b net = bytes_of (network_rows net)
