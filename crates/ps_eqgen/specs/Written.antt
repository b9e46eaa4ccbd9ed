-- The rows of a group as a loop over its operands writes them, the head of a BLOCK row, and how deep the values of a
-- step are nested.
use Rattle.std.specs.Prelude.{ℕ, ◌+◌, ◌≤◌, List, [], ◌∷◌, ◌++◌, All}
use Rattle.std.specs.Int.{w16, w32, to_be_bytes}
use Rattle.ps_base.specs.declared.limits.TheConstants.{MOST_NESTED}
use Rattle.ps_model.specs.Formula.{Formula, Formulas, no_operand, operand}
use Rattle.ps_model.specs.Action.{Actual, wired}
use Rattle.ps_model.specs.Values.{depth}
use Rattle.ps_eqvm.specs.Rows.{EquationRow}
use Rattle.ps_eqvm.specs.Code.{work, operand_at, expression_rows}
use Rattle.ps_eqvm.specs.declared.opcode.Gate.{Gate}
use Rattle.ps_eqvm.specs.declared.opcode.Opcode.TheVariants.{Block}
use Rattle.ps_eqvm.specs.Opcodes.{byte_of_opcode}
use Rattle.ps_eqvm.specs.Gates.{gate_row}

-- the rows of the operands that are left: the next comes to work cell d by one gate, and each later one by another
abbrev pub rows_left : (d : ℕ) → (next later : Gate) → Formulas → List EquationRow
rows_left d next later no_operand = []
rows_left d next later (operand e es) = expression_rows (d + 1) e ++ (gate_row next (work d) (operand_at (d + 1) e) ∷ rows_left d later later es)

-- the bytes of a BLOCK row before its operands, of which there are so many
abbrev pub block_head : (instance kind first limit count : ℕ) → List ℕ
block_head instance kind first limit count =
    byte_of_opcode Block ∷ (to_be_bytes w16 instance ++ (kind ∷ (to_be_bytes w16 first ++ (to_be_bytes w32 limit ++ count ∷ []))))

-- how deep the value at a pin is nested
abbrev pub depth_at_pin : Actual → ℕ
depth_at_pin (wired e) = depth e
depth_at_pin _ = 0

-- no value is nested deeper than those of an application may be
abbrev pub AreShallow : List Formula → Type 0
AreShallow es = All (λ e. depth e ≤ MOST_NESTED) es
