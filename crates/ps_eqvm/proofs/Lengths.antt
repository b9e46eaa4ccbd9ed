-- A turn and a Begin leave as many cells and as many bytes of instances as there were.
use Rattle.std.proofs.Common.{◌≡◌, ℕ, ◌+◌, ◌*◌, ◌<◌, ◌≤◌, Bool, cond, List, length, map, Option, Some, None, Result, Ok, Err, refl, ◌∙◌, arith}
use Rattle.std.specs.Prelude.{slice_index, ◌||◌, ◌==◌, nat_lt, nat_le, not, bit_and, bit_or}
use Rattle.std.specs.List.{list_any}
use Rattle.std.proofs.lemmas.Bool.{cond_both, or_parts, ltb-false, leb-false}
use Rattle.std.proofs.lemmas.List.{length-set, length-map}
use Rattle.ps_model.specs.declared.kind.Kind.{Kind}
use Rattle.ps_model.specs.Blocks.{outs, output_count}
use Rattle.ps_model.specs.Budgets.{boolean_count}
use Rattle.ps_model.proofs.OutputLengths.{length-outs}
use Rattle.ps_model.specs.Kept.{Kept, counted_down}
use Rattle.ps_model.specs.Stored.{stored, loaded}
use Rattle.ps_machine.specs.Bytes.{bit, is_no_bit, instance_bytes}
use Rattle.ps_machine.proofs.Places.{length-replaced}
use Rattle.ps_machine.specs.Kinds.{kind_of}
use Rattle.ps_eqvm.specs.declared.layout.TheConstants.{WORK_CELLS}
use Rattle.ps_eqvm.specs.Plain.{Plain, IsSized}
use Rattle.ps_eqvm.specs.Rows.{EquationRow, last_row, set_row, all_row, any_row, block_row, operand_of, fetched}
use Rattle.ps_eqvm.specs.Acting.{trapped, with_cell, byte_of, target_of, after_set, after_join, is_missing, is_odd, pins_on, pin_bytes, settled, after_step, block_as, block_by}
use Rattle.ps_eqvm.specs.Turn.{after_row, carried_out, turn_plain, begin_plain}
use Rattle.ps_eqvm.specs.declared.trap.Trap.{Trap}
use Rattle.ps_eqvm.specs.declared.trap.Trap.TheVariants.{PinCount, NotBoolean, OutOfRange, NoInstance, NotLoaded}

pub length-stored : (kept : Kept) → length (stored kept) ≡ 16
length-stored kept = refl

module _ (n k : ℕ) where
  cell_sized : (i byte next : ℕ) (p : Plain) → IsSized n k p → IsSized n k (with_cell i byte next p)
  cell_sized i byte next p is = record { cells = length-set p.cells i byte ∙ is.cells; blocks = is.blocks }

  trap_sized : (t : Trap) (p : Plain) → IsSized n k p → IsSized n k (trapped t p)
  trap_sized t p is = record { cells = is.cells; blocks = is.blocks }

  set_sized : (target byte : Option ℕ) (next : ℕ) (p : Plain) → IsSized n k p → IsSized n k (after_set target byte next p)
  set_sized None byte next p is = trap_sized OutOfRange p is
  set_sized (Some i) None next p is = trap_sized OutOfRange p is
  set_sized (Some i) (Some byte) next p is =
      cond_both (is_no_bit byte) (trapped NotBoolean p) (with_cell i byte next p) (IsSized n k) (λ _. trap_sized NotBoolean p is) (λ _. cell_sized i byte next p is)

  join_sized : (join : ℕ → ℕ → ℕ) (target byte : Option ℕ) (next : ℕ) (p : Plain) → IsSized n k p → IsSized n k (after_join join target byte next p)
  join_sized join None byte next p is = trap_sized OutOfRange p is
  join_sized join (Some i) None next p is = trap_sized OutOfRange p is
  join_sized join (Some i) (Some byte) next p is =
      cond_both (is_no_bit byte || is_no_bit (slice_index p.cells i)) (trapped NotBoolean p) (with_cell i (join (slice_index p.cells i) byte) next p) (IsSized n k)
      (λ _. trap_sized NotBoolean p is) (λ _. cell_sized i (join (slice_index p.cells i) byte) next p is)

  settled_sized : (i o : ℕ) (kind : Kind) (kept : Kept) (next : ℕ) (p : Plain) → i < k → o + output_count kind ≤ n → IsSized n k p → IsSized n k (settled i o kind kept next p)
  settled_sized i o kind kept next p low fits is =
      let bits : List ℕ = map bit (outs kind kept.code kept.mode) in
      let count : length bits ≡ output_count kind = length-map (outs kind kept.code kept.mode) bit ∙ length-outs kind kept.code kept.mode in
      let room : WORK_CELLS + o + length bits ≤ length p.cells = omega (arith, count, is.cells, fits) in
      let sixteen = length-stored kept in
      let place : 16 * i + length (stored kept) ≤ length p.blocks = omega (arith, sixteen, is.blocks, low) in
      record {
        cells = length-replaced p.cells (WORK_CELLS + o) bits room ∙ is.cells;
        blocks = length-replaced p.blocks (16 * i) (stored kept) place ∙ is.blocks;
      }

  stepped_sized : (i o limit : ℕ) (kind : Kind) (pins : ℕ → Bool) (next : ℕ) (kept : Option Kept) (p : Plain) → i < k → o + output_count kind ≤ n → IsSized n k p →
      IsSized n k (after_step i o limit kind pins next kept p)
  stepped_sized i o limit kind pins next None p low fits is = trap_sized NotLoaded p is
  stepped_sized i o limit kind pins next (Some kept) p low fits is = settled_sized i o kind (counted_down kind limit pins p.passed kept) next p low fits is

  block_as_sized : (i o limit : ℕ) (kind : Kind) (bytes : List (Option ℕ)) (next : ℕ) (p : Plain) → i < k → IsSized n k p → IsSized n k (block_as n i o limit kind bytes next p)
  block_as_sized i o limit kind bytes next p low is =
      let kept = loaded kind (instance_bytes 0 i p.blocks) in
      let last : Plain = after_step i o limit kind (pins_on bytes) next kept p in
      let odd : Plain = cond (list_any is_odd bytes) (trapped NotBoolean p) last in
      let counted : Plain = cond (not (length bytes == boolean_count kind)) (trapped PinCount p) odd in
      cond_both (nat_lt n (o + output_count kind) || list_any is_missing bytes) (trapped OutOfRange p) counted (IsSized n k) (λ _. trap_sized OutOfRange p is)
      (λ within. cond_both (not (length bytes == boolean_count kind)) (trapped PinCount p) odd (IsSized n k) (λ _. trap_sized PinCount p is)
      (λ _. cond_both (list_any is_odd bytes) (trapped NotBoolean p) last (IsSized n k) (λ _. trap_sized NotBoolean p is)
      (λ _. stepped_sized i o limit kind (pins_on bytes) next kept p low (ltb-false n (o + output_count kind) (or_parts (nat_lt n (o + output_count kind)) (list_any is_missing bytes) within).0) is)))

  block_by_sized : (i o limit : ℕ) (kind : Option Kind) (bytes : List (Option ℕ)) (next : ℕ) (p : Plain) → i < k → IsSized n k p → IsSized n k (block_by n i o limit kind bytes next p)
  block_by_sized i o limit None bytes next p low is = trap_sized NoInstance p is
  block_by_sized i o limit (Some kind) bytes next p low is = block_as_sized i o limit kind bytes next p low is

  row_sized : (row : EquationRow) (next : ℕ) (p : Plain) → IsSized n k p → IsSized n k (after_row n k row next p)
  row_sized last_row next p is = record { cells = is.cells; blocks = is.blocks }
  row_sized (set_row t c) next p is = set_sized (target_of (operand_of n t)) (byte_of p.cells (operand_of n c)) next p is
  row_sized (all_row t c) next p is = join_sized bit_and (target_of (operand_of n t)) (byte_of p.cells (operand_of n c)) next p is
  row_sized (any_row t c) next p is = join_sized bit_or (target_of (operand_of n t)) (byte_of p.cells (operand_of n c)) next p is
  row_sized (block_row i kind o limit pins) next p is =
      cond_both (nat_le k i) (trapped NoInstance p) (block_by n i o limit (kind_of kind) (pin_bytes n p.cells pins) next p) (IsSized n k) (λ _. trap_sized NoInstance p is)
      (λ low. block_by_sized i o limit (kind_of kind) (pin_bytes n p.cells pins) next p (leb-false k i low) is)

  carried_sized : (row : Result EquationRow Trap) (p : Plain) → IsSized n k p → IsSized n k (carried_out n k row p)
  carried_sized (Ok row) p is = row_sized row _ p is
  carried_sized (Err t) p is = trap_sized t p is

  pub turn_sized : (code : List ℕ) (p : Plain) → IsSized n k p → IsSized n k (turn_plain n k code p)
  turn_sized code p is = carried_sized (fetched code p.offset) p is

  pub begin_sized : (now : ℕ) (ins : List Bool) (p : Plain) → length ins ≤ n → IsSized n k p → IsSized n k (begin_plain now ins p)
  begin_sized now ins p few is =
      let count = length-map ins bit in
      let room : WORK_CELLS + length (map bit ins) ≤ length p.cells = omega (arith, count, is.cells, few) in
      record { cells = length-replaced p.cells WORK_CELLS (map bit ins) room ∙ is.cells; blocks = is.blocks }
