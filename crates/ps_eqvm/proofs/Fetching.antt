-- Which row stands at a place of the code.
use Rattle.std.proofs.Common.{◌≡◌, ◌≢◌, ℕ, ◌+◌, ◌<◌, cond, List, length, Result, Err, sym, ◌∙◌}
use Rattle.std.specs.Prelude.{slice_index, ◌==◌, nat_le}
use Rattle.std.proofs.lemmas.Bool.{cond-false, lt-leb, ne_eqb}
use Rattle.ps_machine.specs.Bytes.{be2}
use Rattle.ps_eqvm.specs.declared.opcode.Gate.TheVariants.{Set, All, Any}
use Rattle.ps_eqvm.specs.Rows.{EquationRow, last_row, fetched, whole, block_at}
use Rattle.ps_eqvm.specs.declared.opcode.Opcode.{Opcode}
use Rattle.ps_eqvm.specs.declared.opcode.Opcode.TheVariants.{Last, Target, Block}
use Rattle.ps_eqvm.specs.Opcodes.{byte_of_opcode}
use Rattle.ps_eqvm.specs.Gates.{gate_row}
use Rattle.ps_eqvm.specs.declared.trap.Trap.{Trap}
use Rattle.ps_eqvm.specs.declared.trap.Trap.TheVariants.{UnknownOpcode, PastEnd}

module _ (code : List ℕ) (at : ℕ) (within : at < length code) where
  -- by its opcode
  by_opcode : ℕ → Result EquationRow Trap
  by_opcode opcode =
      cond (opcode == 0xF0) (whole code at last_row)
      (cond (opcode == 0xF1) (whole code at (gate_row Set (be2 code (at + 1)) (be2 code (at + 3))))
      (cond (opcode == 0xF2) (whole code at (gate_row All (be2 code (at + 1)) (be2 code (at + 3))))
      (cond (opcode == 0xF3) (whole code at (gate_row Any (be2 code (at + 1)) (be2 code (at + 3))))
      (cond (opcode == 0xF4) (whole code at (block_at code at)) (Err UnknownOpcode)))))

  is_by : fetched code at ≡ by_opcode (slice_index code at)
  unfolding by_opcode
  is_by = cond-false (nat_le (length code) at) (Err PastEnd) (by_opcode (slice_index code at)) (lt-leb (length code) at within)

  pub fetched_none : ((opcode : Opcode) → byte_of_opcode opcode ≢ slice_index code at) → Err UnknownOpcode ≡ fetched code at
  unfolding by_opcode
  fetched_none none =
      let b = slice_index code at in
      let off : (opcode : Opcode) (x y : Result EquationRow Trap) → cond (b == byte_of_opcode opcode) x y ≡ y =
      λ opcode x y. cond-false (b == byte_of_opcode opcode) x y (ne_eqb b (byte_of_opcode opcode) (λ e. none opcode (sym e))) in
      sym (is_by ∙ off Last _ _ ∙ off (Target Set) _ _ ∙ off (Target All) _ _ ∙ off (Target Any) _ _ ∙ off Block _ _)
