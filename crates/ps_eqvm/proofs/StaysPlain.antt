-- A turn of any code, as a Begin, leaves numbers that fit their bytes.
use Rattle.std.proofs.Common.{ℕ, zero, suc, ◌+◌, ◌*◌, ◌^◌, ◌<◌, ◌≤◌, Bool, true, false, cond, List, [], ◌∷◌, ◌++◌, length, take, drop, map, sym, ap, ◌∙◌, subst, inl, inr, arith, Result, Ok, Err, Option, Some, None, lit<}
use Rattle.std.specs.Prelude.{slice_index, slice_set, replicate, nat_le, nat_lt, not, ◌||◌, ◌==◌, bit_and, bit_or}
use Rattle.std.specs.List.{list_any, range_with_len}
use Rattle.std.specs.Int.{w16, w32, to_be_bytes, from_be_bytes}
use Rattle.std.proofs.lemmas.Bool.{cases_lt, cases_eq, cond_both, or_parts, ltb-false}
use Rattle.std.proofs.lemmas.List.{get_or-set_same, get_or-set_other, get_or_past, get_or-drop, length-set}
use Rattle.ps_model.specs.declared.kind.Kind.{Kind}
use Rattle.ps_model.specs.declared.kind.Kind.TheVariants.{Equivalent, Antivalent, EmergencyStop, Espe, ModeSelector, TwoHandTwo, TwoHandThree, GuardMonitoring, GuardLocking, EnableSwitch, SafetyRequest, OutControl, Edm}
use Rattle.ps_model.specs.Blocks.{latched, lowest_on, mode_states, outs, output_count}
use Rattle.ps_model.specs.Budgets.{boolean_count}
use Rattle.ps_model.specs.Kept.{Kept, counted_down}
use Rattle.ps_model.specs.Stored.{stored, loaded, does_load, kept_in}
use Rattle.ps_machine.specs.Bytes.{bit, be2, be4, is_no_bit, replaced, instance_bytes}
use Rattle.ps_machine.specs.Kinds.{kind_of}
use Rattle.ps_eqvm.specs.declared.layout.TheConstants.{OFFSET_AT, PROGRESS_AT, LAST_AT, PASSED_AT, WORK_AT, WORK_CELLS, SIGNALS_AT}
use Rattle.ps_eqvm.specs.Plain.{Plain, IsPlain, complement, parsed}
use Rattle.ps_eqvm.specs.Rows.{EquationRow, last_row, set_row, all_row, any_row, block_row, operand_of, size_of, whole, block_at, fetched}
use Rattle.ps_eqvm.specs.Acting.{trapped, with_cell, byte_of, target_of, after_set, after_join, is_missing, is_odd, pins_on, pin_bytes, settled, after_step, block_as, block_by}
use Rattle.ps_eqvm.specs.Turn.{after_row, carried_out, turn_plain, begin_plain}
use Rattle.ps_eqvm.proofs.Again.{bytes-append, four, one}
use Rattle.ps_eqvm.proofs.Complements.{complement_small}
use Rattle.ps_eqvm.specs.Traps.{number_of}
use Rattle.ps_eqvm.specs.declared.trap.Trap.{Trap}
use Rattle.ps_eqvm.specs.declared.trap.Trap.TheVariants.{UnknownOpcode, PastEnd, PinCount, NotBoolean, OutOfRange, NoInstance, NotLoaded}

-- ---- lists of bytes
abbrev AreBytes : List ℕ → Type 0
AreBytes bytes = (i : ℕ) → slice_index bytes i < 256

no_bytes : AreBytes []
no_bytes i = lit< tt

take_bytes : (n : ℕ) (bytes : List ℕ) → AreBytes bytes → AreBytes (take n bytes)
take_bytes zero bytes h i = lit< tt
take_bytes (suc n) [] h i = lit< tt
take_bytes (suc n) (b ∷ bytes) h zero = h 0
take_bytes (suc n) (b ∷ bytes) h (suc i) = take_bytes n bytes (λ j. h (suc j)) i

drop_bytes : (n : ℕ) (bytes : List ℕ) → AreBytes bytes → AreBytes (drop n bytes)
drop_bytes n bytes h i = subst (λ b. b < 256) (sym (get_or-drop n bytes i 0)) (h (n + i))

set_bytes : (bytes : List ℕ) (i b : ℕ) → AreBytes bytes → b < 256 → AreBytes (slice_set bytes i b)
set_bytes bytes i b h low j =
    elim (cases_eq j i) [
      | inl same ↦ elim (cases_lt i (length bytes)) [
        | inl inside ↦ subst (λ x. x < 256) (sym (ap (slice_index (slice_set bytes i b)) same ∙ get_or-set_same bytes i b 0 inside)) low
        | inr past ↦ subst (λ x. x < 256) (sym (get_or_past (slice_set bytes i b) j 0 (omega (arith, length-set bytes i b)))) (lit< tt)
      ]
      | inr other ↦ subst (λ x. x < 256) (sym (get_or-set_other bytes i j b 0 other)) (h j)
    ]

replaced_bytes : (bytes : List ℕ) (at : ℕ) (new : List ℕ) → AreBytes bytes → AreBytes new → AreBytes (replaced bytes at new)
replaced_bytes bytes at new h g =
    bytes-append (take at bytes) (new ++ drop (at + length new) bytes) (take_bytes at bytes h) (bytes-append new (drop (at + length new) bytes) g (drop_bytes (at + length new) bytes h))

bit_small : (b : Bool) → bit b < 256
bit_small true = lit< tt
bit_small false = lit< tt

bits_bytes : (bits : List Bool) → AreBytes (map bit bits)
bits_bytes [] = no_bytes
bits_bytes (b ∷ bits) = bytes-append (bit b ∷ []) (map bit bits) (one (bit b) (bit_small b)) (bits_bytes bits)

two_bytes : (n : ℕ) → AreBytes (to_be_bytes w16 n)
two_bytes n zero = omega arith
two_bytes n (suc zero) = omega arith
two_bytes n (suc (suc i)) = lit< tt

zero_bytes : (n : ℕ) → AreBytes (replicate n 0)
zero_bytes zero = no_bytes
zero_bytes (suc n) = bytes-append (0 ∷ []) (replicate n 0) (one 0 (lit< tt)) (zero_bytes n)

pub stored_bytes : (k : Kept) → k.mode < 256 → AreBytes (stored k)
stored_bytes k low =
    let rest : List ℕ = replicate 7 0 in
    let timed = bytes-append (to_be_bytes w32 k.timer) rest (four k.timer) (zero_bytes 7) in
    let moded = bytes-append (k.mode ∷ []) (to_be_bytes w32 k.timer ++ rest) (one k.mode low) timed in
    let second = bytes-append (bit k.last_auxiliary ∷ []) (k.mode ∷ (to_be_bytes w32 k.timer ++ rest)) (one (bit k.last_auxiliary) (bit_small k.last_auxiliary)) moded in
    let first = bytes-append (bit k.last_reset ∷ []) (bit k.last_auxiliary ∷ k.mode ∷ (to_be_bytes w32 k.timer ++ rest)) (one (bit k.last_reset) (bit_small k.last_reset)) second in
    bytes-append (to_be_bytes w16 k.code) (bit k.last_reset ∷ bit k.last_auxiliary ∷ k.mode ∷ (to_be_bytes w32 k.timer ++ rest)) (two_bytes k.code) first

four_small : (a b c d : ℕ) → a < 256 → b < 256 → c < 256 → d < 256 → from_be_bytes w32 (a ∷ b ∷ c ∷ d ∷ []) < 2 ^ 32
four_small a b c d p q r s = omega arith

be4_small : (bytes : List ℕ) (at : ℕ) → AreBytes bytes → be4 bytes at < 2 ^ 32
be4_small bytes at h = four_small (slice_index bytes at) (slice_index bytes (at + 1)) (slice_index bytes (at + 2)) (slice_index bytes (at + 3)) (h at) (h (at + 1)) (h (at + 2)) (h (at + 3))

-- ---- the latched mode
lowest_small : (pins : ℕ → Bool) (n a : ℕ) → a + n ≤ 8 → lowest_on (range_with_len a n) pins < 256
lowest_small pins zero a low = lit< tt
lowest_small pins (suc n) a low =
    cond_both (pins (a + 1)) a (lowest_on (range_with_len (a + 1) n) pins) (λ m. m < 256) (λ _. omega arith) (λ _. lowest_small pins n (a + 1) (omega arith))

latched_small : (kind : Kind) (pins : ℕ → Bool) (q q' mode : ℕ) → mode < 256 → latched kind pins q q' mode < 256
unfolding latched
latched_small Equivalent pins q q' mode low = lit< tt
latched_small Antivalent pins q q' mode low = lit< tt
latched_small EmergencyStop pins q q' mode low = lit< tt
latched_small Espe pins q q' mode low = lit< tt
latched_small ModeSelector pins q q' mode low =
    let entered : ℕ = cond (q == 0x8005) (lowest_on (range_with_len 0 8) pins) mode in
    cond_both (list_any (λ x. x == q') mode_states) entered 0 (λ m. m < 256)
    (λ _. cond_both (q == 0x8005) (lowest_on (range_with_len 0 8) pins) mode (λ m. m < 256) (λ _. lowest_small pins 8 0 (omega arith)) (λ _. low))
    (λ _. lit< tt)
latched_small TwoHandTwo pins q q' mode low = lit< tt
latched_small TwoHandThree pins q q' mode low = lit< tt
latched_small GuardMonitoring pins q q' mode low = lit< tt
latched_small GuardLocking pins q q' mode low = lit< tt
latched_small EnableSwitch pins q q' mode low = lit< tt
latched_small SafetyRequest pins q q' mode low = lit< tt
latched_small OutControl pins q q' mode low = lit< tt
latched_small Edm pins q q' mode low = lit< tt

-- ---- one row
small_trap : (t : Trap) → number_of t + 1 < 256
small_trap UnknownOpcode = lit< tt
small_trap PastEnd = lit< tt
small_trap PinCount = lit< tt
small_trap NotBoolean = lit< tt
small_trap OutOfRange = lit< tt
small_trap NoInstance = lit< tt
small_trap NotLoaded = lit< tt

trap_plain : (t : Trap) (p : Plain) → IsPlain p → IsPlain (trapped t p)
trap_plain t p is = record { offset = is.offset; progress = small_trap t; last = is.last; passed = is.passed; cells = is.cells; blocks = is.blocks }

cell_plain : (i byte next : ℕ) (p : Plain) → byte < 256 → next < 2 ^ 32 → IsPlain p → IsPlain (with_cell i byte next p)
cell_plain i byte next p low small is =
    record { offset = small; progress = is.progress; last = is.last; passed = is.passed; cells = set_bytes p.cells i byte is.cells low; blocks = is.blocks }

set_plain : (target byte : Option ℕ) (next : ℕ) (p : Plain) → next < 2 ^ 32 → IsPlain p → IsPlain (after_set target byte next p)
set_plain None byte next p small is = trap_plain OutOfRange p is
set_plain (Some i) None next p small is = trap_plain OutOfRange p is
set_plain (Some i) (Some byte) next p small is =
    cond_both (is_no_bit byte) (trapped NotBoolean p) (with_cell i byte next p) IsPlain (λ _. trap_plain NotBoolean p is)
    (λ h. let low : byte ≤ 1 = ltb-false 1 byte h in cell_plain i byte next p (omega arith) small is)

-- two bits join to a byte
abbrev Bits : (ℕ → ℕ → ℕ) → Type 0
Bits join = (x y : ℕ) → x ≤ 1 → y ≤ 1 → join x y < 256

and_bits : Bits bit_and
and_bits zero zero p q = lit< tt
and_bits zero (suc zero) p q = lit< tt
and_bits (suc zero) zero p q = lit< tt
and_bits (suc zero) (suc zero) p q = lit< tt
and_bits (suc (suc x)) y p q = absurd (omega arith)
and_bits zero (suc (suc y)) p q = absurd (omega arith)
and_bits (suc zero) (suc (suc y)) p q = absurd (omega arith)

or_bits : Bits bit_or
or_bits zero zero p q = lit< tt
or_bits zero (suc zero) p q = lit< tt
or_bits (suc zero) zero p q = lit< tt
or_bits (suc zero) (suc zero) p q = lit< tt
or_bits (suc (suc x)) y p q = absurd (omega arith)
or_bits zero (suc (suc y)) p q = absurd (omega arith)
or_bits (suc zero) (suc (suc y)) p q = absurd (omega arith)

join_plain : (join : ℕ → ℕ → ℕ) → Bits join → (target byte : Option ℕ) (next : ℕ) (p : Plain) → next < 2 ^ 32 → IsPlain p → IsPlain (after_join join target byte next p)
join_plain join bits None byte next p small is = trap_plain OutOfRange p is
join_plain join bits (Some i) None next p small is = trap_plain OutOfRange p is
join_plain join bits (Some i) (Some byte) next p small is =
    let there = slice_index p.cells i in
    cond_both (is_no_bit byte || is_no_bit there) (trapped NotBoolean p) (with_cell i (join there byte) next p) IsPlain (λ _. trap_plain NotBoolean p is)
    (λ h. let both = or_parts (is_no_bit byte) (is_no_bit there) h in
    cell_plain i (join there byte) next p (bits there byte (ltb-false 1 there both.1) (ltb-false 1 byte both.0)) small is)

settled_plain : (i o : ℕ) (kind : Kind) (kept : Kept) (next : ℕ) (p : Plain) → kept.mode < 256 → next < 2 ^ 32 → IsPlain p → IsPlain (settled i o kind kept next p)
settled_plain i o kind kept next p low small is = record {
  offset = small;
  progress = is.progress;
  last = is.last;
  passed = is.passed;
  cells = replaced_bytes p.cells (WORK_CELLS + o) (map bit (outs kind kept.code kept.mode)) is.cells (bits_bytes (outs kind kept.code kept.mode));
  blocks = replaced_bytes p.blocks (16 * i) (stored kept) is.blocks (stored_bytes kept low);
}

loaded_plain : (i o limit : ℕ) (kind : Kind) (pins : ℕ → Bool) (next : ℕ) (bytes : List ℕ) (p : Plain) → AreBytes bytes → next < 2 ^ 32 → IsPlain p →
    IsPlain (after_step i o limit kind pins next (loaded kind bytes) p)
loaded_plain i o limit kind pins next bytes p h small is =
    cond_both (does_load kind bytes) (Some (kept_in bytes)) None (λ kept. IsPlain (after_step i o limit kind pins next kept p))
    (λ _. let k' : Kept = counted_down kind limit pins p.passed (kept_in bytes) in
    settled_plain i o kind k' next p (latched_small kind pins (kept_in bytes).code k'.code (slice_index bytes 4) (h 4)) small is)
    (λ _. trap_plain NotLoaded p is)

module _ (n k : ℕ) where
  block_as_plain : (i o limit : ℕ) (kind : Kind) (bytes : List (Option ℕ)) (next : ℕ) (p : Plain) → next < 2 ^ 32 → IsPlain p → IsPlain (block_as n i o limit kind bytes next p)
  block_as_plain i o limit kind bytes next p small is =
      let sixteen = instance_bytes 0 i p.blocks in
      let last : Plain = after_step i o limit kind (pins_on bytes) next (loaded kind sixteen) p in
      let odd : Plain = cond (list_any is_odd bytes) (trapped NotBoolean p) last in
      let counted : Plain = cond (not (length bytes == boolean_count kind)) (trapped PinCount p) odd in
      cond_both (nat_lt n (o + output_count kind) || list_any is_missing bytes) (trapped OutOfRange p) counted IsPlain (λ _. trap_plain OutOfRange p is)
      (λ _. cond_both (not (length bytes == boolean_count kind)) (trapped PinCount p) odd IsPlain (λ _. trap_plain PinCount p is)
      (λ _. cond_both (list_any is_odd bytes) (trapped NotBoolean p) last IsPlain (λ _. trap_plain NotBoolean p is)
      (λ _. loaded_plain i o limit kind (pins_on bytes) next sixteen p (take_bytes 16 (drop (0 + 16 * i) p.blocks) (drop_bytes (0 + 16 * i) p.blocks is.blocks)) small is)))

  block_by_plain : (i o limit : ℕ) (kind : Option Kind) (bytes : List (Option ℕ)) (next : ℕ) (p : Plain) → next < 2 ^ 32 → IsPlain p → IsPlain (block_by n i o limit kind bytes next p)
  block_by_plain i o limit None bytes next p small is = trap_plain NoInstance p is
  block_by_plain i o limit (Some kind) bytes next p small is = block_as_plain i o limit kind bytes next p small is

  row_plain : (row : EquationRow) (next : ℕ) (p : Plain) → next < 2 ^ 32 → IsPlain p → IsPlain (after_row n k row next p)
  row_plain last_row next p small is = record { offset = small; progress = lit< tt; last = is.last; passed = is.passed; cells = is.cells; blocks = is.blocks }
  row_plain (set_row t c) next p small is = set_plain (target_of (operand_of n t)) (byte_of p.cells (operand_of n c)) next p small is
  row_plain (all_row t c) next p small is = join_plain bit_and and_bits (target_of (operand_of n t)) (byte_of p.cells (operand_of n c)) next p small is
  row_plain (any_row t c) next p small is = join_plain bit_or or_bits (target_of (operand_of n t)) (byte_of p.cells (operand_of n c)) next p small is
  row_plain (block_row i kind o limit pins) next p small is =
      cond_both (nat_le k i) (trapped NoInstance p) (block_by n i o limit (kind_of kind) (pin_bytes n p.cells pins) next p) IsPlain (λ _. trap_plain NoInstance p is)
      (λ _. block_by_plain i o limit (kind_of kind) (pin_bytes n p.cells pins) next p small is)

  -- a row that was read ends in the code
  abbrev Fits : List ℕ → ℕ → Result EquationRow Trap → Type 0
  Fits code at (Ok row) = at + size_of row ≤ length code
  Fits code at (Err t) = Unit {0}

  whole_fits : (code : List ℕ) (at : ℕ) (row : EquationRow) → Fits code at (whole code at row)
  whole_fits code at row = cond_both (nat_lt (length code) (at + size_of row)) (Err PastEnd) (Ok row) (Fits code at) (λ _. tt) (λ h. ltb-false (length code) (at + size_of row) h)

  fetched_fits : (code : List ℕ) (at : ℕ) → Fits code at (fetched code at)
  fetched_fits code at =
      let opcode = slice_index code at in
      let r1 : Result EquationRow Trap = whole code at (set_row (be2 code (at + 1)) (be2 code (at + 3))) in
      let r2 : Result EquationRow Trap = whole code at (all_row (be2 code (at + 1)) (be2 code (at + 3))) in
      let r3 : Result EquationRow Trap = whole code at (any_row (be2 code (at + 1)) (be2 code (at + 3))) in
      let r4 : Result EquationRow Trap = whole code at (block_at code at) in
      let none : Result EquationRow Trap = Err UnknownOpcode in
      let t4 : Result EquationRow Trap = cond (opcode == 0xF4) r4 none in
      let t3 : Result EquationRow Trap = cond (opcode == 0xF3) r3 t4 in
      let t2 : Result EquationRow Trap = cond (opcode == 0xF2) r2 t3 in
      let t1 : Result EquationRow Trap = cond (opcode == 0xF1) r1 t2 in
      let t0 : Result EquationRow Trap = cond (opcode == 0xF0) (whole code at last_row) t1 in
      cond_both (nat_le (length code) at) (Err PastEnd) t0 (Fits code at) (λ _. tt)
      (λ _. cond_both (opcode == 0xF0) (whole code at last_row) t1 (Fits code at) (λ _. whole_fits code at last_row)
      (λ _. cond_both (opcode == 0xF1) r1 t2 (Fits code at) (λ _. whole_fits code at (set_row (be2 code (at + 1)) (be2 code (at + 3))))
      (λ _. cond_both (opcode == 0xF2) r2 t3 (Fits code at) (λ _. whole_fits code at (all_row (be2 code (at + 1)) (be2 code (at + 3))))
      (λ _. cond_both (opcode == 0xF3) r3 t4 (Fits code at) (λ _. whole_fits code at (any_row (be2 code (at + 1)) (be2 code (at + 3))))
      (λ _. cond_both (opcode == 0xF4) r4 none (Fits code at) (λ _. whole_fits code at (block_at code at)) (λ _. tt))))))

  carried_plain : (code : List ℕ) (row : Result EquationRow Trap) (p : Plain) → length code < 2 ^ 32 → Fits code p.offset row → IsPlain p → IsPlain (carried_out n k row p)
  carried_plain code (Ok row) p small fits is = row_plain row (p.offset + size_of row) p (omega arith) is
  carried_plain code (Err t) p small fits is = trap_plain t p is

  pub turn_plain_is : (code : List ℕ) (p : Plain) → length code < 2 ^ 32 → IsPlain p → IsPlain (turn_plain n k code p)
  turn_plain_is code p small is = carried_plain code (fetched code p.offset) p small (fetched_fits code p.offset) is

-- ---- a Begin, and cells of any bytes
pub parsed_is : (n : ℕ) (cells : List ℕ) → IsPlain (parsed n cells)
parsed_is n cells =
    let bytes = complement cells in
    let h = complement_small cells in
    record {
      offset = be4_small bytes OFFSET_AT h;
      progress = h PROGRESS_AT;
      last = be4_small bytes LAST_AT h;
      passed = be4_small bytes PASSED_AT h;
      cells = take_bytes (WORK_CELLS + n) (drop WORK_AT bytes) (drop_bytes WORK_AT bytes h);
      blocks = drop_bytes (SIGNALS_AT + n) bytes h;
    }

pub begun_is : (now : ℕ) (ins : List Bool) (p : Plain) → now < 2 ^ 32 → IsPlain p → IsPlain (begin_plain now ins p)
begun_is now ins p small is = record {
  offset = lit< tt;
  progress = lit< tt;
  last = small;
  passed = omega arith;
  cells = replaced_bytes p.cells WORK_CELLS (map bit ins) is.cells (bits_bytes ins);
  blocks = is.blocks;
}
