-- What BLOCK leaves, case by case.
use Rattle.std.proofs.Common.{◌≡◌, ◌≢◌, ℕ, ◌+◌, ◌*◌, ◌<◌, ◌≤◌, true, false, cond, List, length, Option, Result, Ok, Err, refl, sym, ap, ◌∙◌, arith}
use Rattle.std.specs.Prelude.{slice_index, ◌||◌, ◌==◌, nat_lt, not}
use Rattle.std.specs.List.{list_any}
use Rattle.std.proofs.lemmas.Bool.{cond-true, cond-false, or_left, le-ltb, lt-ltb, ne_eqb, eq-eqb}
use Rattle.std.proofs.lemmas.List.FromFn.{length-map-range_with_len}
use Rattle.ps_model.specs.declared.kind.Kind.{Kind}
use Rattle.ps_model.specs.Blocks.{block, output_count}
use Rattle.ps_model.proofs.KindNumbers.{number_at_least, number_at_most}
use Rattle.ps_machine.specs.Kinds.{kind_of}
use Rattle.ps_machine.proofs.KindsByNumber.{no_kind_of}
use Rattle.ps_model.specs.Budgets.{boolean_count}
use Rattle.ps_model.specs.Stored.{loaded}
use Rattle.ps_machine.specs.Bytes.{be2, be4, instance_bytes}
use Rattle.ps_model.specs.PinBits.{pin_of}
use Rattle.ps_eqvm.specs.Plain.{Plain}
use Rattle.ps_eqvm.specs.declared.opcode.Gate.{Gate}
use Rattle.ps_eqvm.specs.declared.opcode.Gate.TheVariants.{Set, All, Any}
use Rattle.ps_eqvm.specs.Gates.{gate_row, after_gate}
use Rattle.ps_eqvm.specs.Rows.{EquationRow, set_row, all_row, any_row, operand_of, operands, size_of, whole, block_at}
use Rattle.ps_eqvm.specs.Acting.{trapped, is_missing, is_odd, pins_on, after_step, block_as, after_block, target_of, byte_of}
use Rattle.ps_eqvm.specs.Turn.{after_row, carried_out}
use Rattle.ps_eqvm.specs.declared.trap.Trap.{Trap}
use Rattle.ps_eqvm.specs.declared.trap.Trap.TheVariants.{PastEnd, PinCount, NotBoolean, OutOfRange}

module _ (n i o limit next : ℕ) (kind : Kind) (bytes : List (Option ℕ)) (p : Plain) where
  last : Plain
  last = after_step i o limit kind (pins_on bytes) next (loaded kind (instance_bytes 0 i p.blocks)) p

  unless_odd : Plain
  unless_odd = cond (list_any is_odd bytes) (trapped NotBoolean p) last

  unless_miscount : Plain
  unless_miscount = cond (not (length bytes == boolean_count kind)) (trapped PinCount p) unless_odd

  pub no_room : n < o + output_count kind → trapped OutOfRange p ≡ block_as n i o limit kind bytes next p
  unfolding unless_miscount unless_odd last
  no_room h = sym (cond-true (nat_lt n (o + output_count kind) || list_any is_missing bytes) (trapped OutOfRange p) unless_miscount (or_left (nat_lt n (o + output_count kind)) (list_any is_missing bytes) (lt-ltb n (o + output_count kind) h)))

  with_room : o + output_count kind ≤ n → cond (list_any is_missing bytes) (trapped OutOfRange p) unless_miscount ≡ block_as n i o limit kind bytes next p
  unfolding unless_miscount unless_odd last
  with_room h = sym (ap (λ b. cond (b || list_any is_missing bytes) (trapped OutOfRange p) unless_miscount) (le-ltb n (o + output_count kind) h))

  pub miscount_traps : o + output_count kind ≤ n → (length bytes ≡ boolean_count kind → ⊥) → cond (list_any is_missing bytes) (trapped OutOfRange p) (trapped PinCount p) ≡ block_as n i o limit kind bytes next p
  unfolding unless_miscount
  miscount_traps h wrong =
      ap (cond (list_any is_missing bytes) (trapped OutOfRange p)) (sym (cond-true (not (length bytes == boolean_count kind)) (trapped PinCount p) unless_odd (ap not (ne_eqb (length bytes) (boolean_count kind) wrong))))
      ∙ with_room h

  right : length bytes ≡ boolean_count kind → unless_miscount ≡ unless_odd
  unfolding unless_miscount
  right count = cond-false (not (length bytes == boolean_count kind)) (trapped PinCount p) unless_odd (ap not (eq-eqb (length bytes) (boolean_count kind) count))

  pub is_bad : o + output_count kind ≤ n → list_any is_missing bytes ≡ true → trapped OutOfRange p ≡ block_as n i o limit kind bytes next p
  is_bad h missing = sym (cond-true (list_any is_missing bytes) (trapped OutOfRange p) unless_miscount missing) ∙ with_room h

  pub is_uneven : o + output_count kind ≤ n → length bytes ≡ boolean_count kind → list_any is_missing bytes ≡ false → list_any is_odd bytes ≡ true → trapped NotBoolean p ≡ block_as n i o limit kind bytes next p
  unfolding unless_odd
  is_uneven h count whole odd =
      sym (cond-false (list_any is_missing bytes) (trapped OutOfRange p) unless_miscount whole ∙ right count ∙ cond-true (list_any is_odd bytes) (trapped NotBoolean p) last odd) ∙ with_room h

  pub is_stepped : o + output_count kind ≤ n → length bytes ≡ boolean_count kind → list_any is_missing bytes ≡ false → list_any is_odd bytes ≡ false →
      (bits : ℕ) → pin_of bits ≡ pins_on bytes → after_step i o limit kind (pin_of bits) next (loaded kind (instance_bytes 0 i p.blocks)) p ≡ block_as n i o limit kind bytes next p
  unfolding unless_odd last
  is_stepped h count whole odd bits pins =
      ap (λ f. after_step i o limit kind f next (loaded kind (instance_bytes 0 i p.blocks)) p) pins
      ∙ sym (cond-false (list_any is_missing bytes) (trapped OutOfRange p) unless_miscount whole ∙ right count ∙ cond-false (list_any is_odd bytes) (trapped NotBoolean p) last odd) ∙ with_room h

-- the BLOCK row at a place of the code
module _ (n k at : ℕ) (code : List ℕ) (p : Plain) where
  size : size_of (block_at code at) ≡ 11 + 2 * slice_index code (at + 10)
  size = ap (λ m. 11 + 2 * m) (length-map-range_with_len (λ j. be2 code (at + 11 + 2 * j)) 0 (slice_index code (at + 10)))

  pub block_cut : length code < at + (11 + 2 * slice_index code (at + 10)) → trapped PastEnd p ≡ carried_out n k (whole code at (block_at code at)) p
  block_cut h =
      let test : nat_lt (length code) (at + size_of (block_at code at)) ≡ true = ap (λ m. nat_lt (length code) (at + m)) size ∙ lt-ltb (length code) (at + (11 + 2 * slice_index code (at + 10))) h in
      ap (λ (r : Result EquationRow Trap). carried_out n k r p) (sym (cond-true (nat_lt (length code) (at + size_of (block_at code at))) (Err PastEnd) (Ok (block_at code at)) test))

  pub block_whole : p.offset ≡ at → at + (11 + 2 * slice_index code (at + 10)) ≤ length code →
      after_block n k (be2 code (at + 1)) (slice_index code (at + 3)) (be2 code (at + 4)) (be4 code (at + 6)) (operands code (at + 11) (slice_index code (at + 10))) (at + (11 + 2 * slice_index code (at + 10))) p
      ≡ carried_out n k (whole code at (block_at code at)) p
  block_whole here h =
      let test : nat_lt (length code) (at + size_of (block_at code at)) ≡ false = ap (λ m. nat_lt (length code) (at + m)) size ∙ le-ltb (length code) (at + (11 + 2 * slice_index code (at + 10))) h in
      let next : at + (11 + 2 * slice_index code (at + 10)) ≡ p.offset + size_of (block_at code at) = λ x. sym here x + sym size x in
      ap (λ m. after_row n k (block_at code at) m p) next
      ∙ ap (λ (r : Result EquationRow Trap). carried_out n k r p) (sym (cond-false (nat_lt (length code) (at + size_of (block_at code at))) (Err PastEnd) (Ok (block_at code at)) test))

-- a row that is whole
pub row_whole : (n k at size : ℕ) (code : List ℕ) (p : Plain) (row : EquationRow) → size_of row ≡ size → p.offset ≡ at → at + size ≤ length code →
    after_row n k row (at + size) p ≡ carried_out n k (whole code at row) p
row_whole n k at size code p row is here h =
    let test : nat_lt (length code) (at + size_of row) ≡ false = ap (λ m. nat_lt (length code) (at + m)) is ∙ le-ltb (length code) (at + size) h in
    let next : at + size ≡ p.offset + size_of row = λ x. sym here x + sym is x in
    ap (λ m. after_row n k row m p) next ∙ ap (λ (r : Result EquationRow Trap). carried_out n k r p) (sym (cond-false (nat_lt (length code) (at + size_of row)) (Err PastEnd) (Ok row) test))

-- SET, ALL or ANY that is whole
pub gate_whole : (how : Gate) (n k at t c : ℕ) (code : List ℕ) (p : Plain) → p.offset ≡ at → at + 5 ≤ length code →
    after_gate how (target_of (operand_of n t)) (byte_of p.cells (operand_of n c)) (at + 5) p ≡ carried_out n k (whole code at (gate_row how t c)) p
gate_whole Set n k at t c code p here h = row_whole n k at 5 code p (set_row t c) refl here h
gate_whole All n k at t c code p here h = row_whole n k at 5 code p (all_row t c) refl here h
gate_whole Any n k at t c code p here h = row_whole n k at 5 code p (any_row t c) refl here h

-- SET, ALL or ANY that is cut
pub gate_cut : (how : Gate) (n k at t c : ℕ) (code : List ℕ) (p : Plain) → length code < at + 5 → trapped PastEnd p ≡ carried_out n k (whole code at (gate_row how t c)) p
gate_cut how n k at t c code p h =
    let test : nat_lt (length code) (at + size_of (gate_row how t c)) ≡ true = ap (λ m. nat_lt (length code) (at + m)) (five how) ∙ lt-ltb (length code) (at + 5) h in
    ap (λ (r : Result EquationRow Trap). carried_out n k r p) (sym (cond-true (nat_lt (length code) (at + size_of (gate_row how t c))) (Err PastEnd) (Ok (gate_row how t c)) test))
  where
    five : (how : Gate) → size_of (gate_row how t c) ≡ 5
    five Set = refl
    five All = refl
    five Any = refl

-- a number that no kind has, as 0 has none
pub unnumbered : (n : ℕ) → (1 ≤ n → n ≤ 13 → ⊥) → kind_of n ≡ kind_of 0
unnumbered n out =
    let above : (kind : Kind) → (block kind).number ≢ 0 = λ kind e. omega (arith, number_at_least kind, e) in
    no_kind_of n (λ kind e. out (omega (arith, number_at_least kind, e)) (omega (arith, number_at_most kind, e))) ∙ sym (no_kind_of 0 above)
