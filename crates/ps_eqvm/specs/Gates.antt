-- SET, ALL and ANY: their rows, and what they leave.
use Rattle.std.specs.Prelude.{ℕ, Bool, true, not, Option, bit_and, bit_or}
use Rattle.ps_eqvm.specs.declared.opcode.Gate.{Gate}
use Rattle.ps_eqvm.specs.declared.opcode.Gate.TheVariants.{Set, All, Any}
use Rattle.ps_eqvm.specs.Plain.{Plain}
use Rattle.ps_eqvm.specs.Rows.{EquationRow, set_row, all_row, any_row}
use Rattle.ps_eqvm.specs.Acting.{after_set, after_join}

-- the row by which a gate gives a target the operand
abbrev pub gate_row : Gate → (target operand : ℕ) → EquationRow
gate_row Set = set_row
gate_row All = all_row
gate_row Any = any_row

-- what a gate leaves
abbrev pub after_gate : Gate → (target byte : Option ℕ) → (next : ℕ) → Plain → Plain
after_gate Set = after_set
after_gate All = after_join bit_and
after_gate Any = after_join bit_or

-- whether the value of an operand alone decides what becomes of the target
abbrev pub decides : Gate → Bool → Bool
decides Set on = true
decides All on = not on
decides Any on = on
