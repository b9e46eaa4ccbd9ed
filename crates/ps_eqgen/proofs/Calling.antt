-- One turn at a BLOCK.
use Rattle.std.proofs.Common.{◌≡◌, ℕ, zero, suc, ◌+◌, ◌-◌, ◌*◌, ◌<◌, ◌≤◌, Bool, false, cond, List, [], ◌∷◌, length, map, refl, sym, ap, ◌∙◌, inl, inr, arith, Option, Some, None}
use Rattle.std.specs.Prelude.{slice_index, slice_index_or, nat_le, nat_lt, not, ◌||◌, ◌==◌}
use Rattle.std.specs.List.{list_any, range_with_len}
use Rattle.std.proofs.lemmas.Bool.{cases_lt, cond-false, lt-leb, eq-eqb, or_from}
use Rattle.std.proofs.lemmas.List.{get_or_past, get_or-map, length-map}
use Rattle.std.proofs.lemmas.List.FromFn.{length-map-range_with_len, get_or-map-range_with_len}
use Rattle.ps_model.specs.declared.kind.Kind.{Kind}
use Rattle.ps_model.specs.Blocks.{block, outs, output_count}
use Rattle.ps_model.specs.Budgets.{boolean_count}
use Rattle.ps_model.specs.Kept.{Kept, counted_down}
use Rattle.ps_model.specs.Stored.{stored, loaded}
use Rattle.ps_model.proofs.Sixteen.{bit_is_one}
use Rattle.ps_machine.specs.Bytes.{bit, replaced, instance_bytes}
use Rattle.ps_machine.proofs.Bits.{bit_is_bit}
use Rattle.ps_machine.proofs.CalledSignals.{called_signals, signal_inside, signal_before, signal_past}
use Rattle.ps_machine.proofs.Instances.{bytes_at, instance_is}
use Rattle.ps_machine.proofs.KindsByNumber.{kind_of-number}
use Rattle.ps_machine.proofs.Places.{length-replaced, index_before, index_within, index_after}
use Rattle.ps_machine.specs.Kinds.{kind_of}
use Rattle.ps_eqvm.specs.declared.layout.TheConstants.{WORK_CELLS}
use Rattle.ps_eqvm.specs.Plain.{Plain}
use Rattle.ps_eqvm.specs.Rows.{block_row, operand_of}
use Rattle.ps_eqvm.specs.Acting.{trapped, byte_of, is_missing, is_odd, is_on, pins_on, pin_bytes, settled, after_step, block_as, block_by}
use Rattle.ps_eqvm.specs.Turn.{after_row}
use Rattle.ps_eqgen.proofs.Holding.{Holds}
use Rattle.ps_eqgen.proofs.Placing.{Reads}
use Rattle.ps_eqvm.specs.declared.trap.Trap.TheVariants.{PinCount, NotBoolean, OutOfRange, NoInstance}

map_range_is : (h : ℕ → Option ℕ) (f : ℕ → ℕ) (g : ℕ → Option ℕ) (n a : ℕ) → ((i : ℕ) → a ≤ i → i < a + n → h (f i) ≡ g i) →
    map h (map f (range_with_len a n)) ≡ map g (range_with_len a n)
map_range_is h f g zero a e = refl
map_range_is h f g (suc n) a e =
    ap (λ x. x ∷ map h (map f (range_with_len (a + 1) n))) (e a (omega arith) (omega arith))
    ∙ ap (λ xs. g a ∷ xs) (map_range_is h f g n (a + 1) (λ i from to. e i (omega arith) (omega arith)))

none_missing : (pins : ℕ → Bool) (xs : List ℕ) → list_any is_missing (map (λ i. Some (bit (pins i))) xs) ≡ false
none_missing pins [] = refl
none_missing pins (x ∷ xs) = none_missing pins xs

none_odd : (pins : ℕ → Bool) (xs : List ℕ) → list_any is_odd (map (λ i. Some (bit (pins i))) xs) ≡ false
none_odd pins [] = refl
none_odd pins (x ∷ xs) = ap (λ b. b || list_any is_odd (map (λ i. Some (bit (pins i))) xs)) (bit_is_bit (pins x)) ∙ none_odd pins xs

-- A BLOCK of intact code does not trap: where its operands read the pins of its kind, and past them no pin is TRUE, the instance is stepped.
pub block_goes : (n m i o limit next : ℕ) (kind : Kind) (codes : ℕ → ℕ) (pins : ℕ → Bool) (p : Plain) (kept : Kept) →
    i < m → o + output_count kind ≤ n → ((j : ℕ) → j < boolean_count kind → Reads n p (codes j) (pins j)) → ((j : ℕ) → boolean_count kind ≤ j → pins j ≡ false) →
    loaded kind (bytes_at i p.blocks) ≡ Some kept →
    after_row n m (block_row i (block kind).number o limit (map codes (range_with_len 0 (boolean_count kind)))) next p ≡ settled i o kind (counted_down kind limit pins p.passed kept) next p
block_goes n m i o limit next kind codes pins p kept within room reads past loads =
    let c = boolean_count kind in
    let g = λ (j : ℕ). Some (bit (pins j)) in
    let bytes = map g (range_with_len 0 c) in
    let read : pin_bytes n p.cells (map codes (range_with_len 0 c)) ≡ bytes =
    map_range_is (λ x. byte_of p.cells (operand_of n x)) codes g c 0 (λ j from to. reads j (omega arith)) in
    let len : length bytes ≡ c = length-map-range_with_len g 0 c in
    let on : (j : ℕ) → is_on (slice_index_or bytes j None) ≡ pins j =
    λ j. elim (cases_lt j c) [
      | inl low ↦ ap is_on (get_or-map-range_with_len g 0 c j j None low (omega arith)) ∙ bit_is_one (pins j)
      | inr high ↦ ap is_on (get_or_past bytes j None (omega arith)) ∙ sym (past j high)
    ] in
    let there : loaded kind (instance_bytes 0 i p.blocks) ≡ Some kept = ap (loaded kind) (instance_is i p.blocks) ∙ loads in
    let tail4 = after_step i o limit kind (pins_on bytes) next (loaded kind (instance_bytes 0 i p.blocks)) p in
    let tail3 = cond (list_any is_odd bytes) (trapped NotBoolean p) tail4 in
    let tail2 = cond (not (length bytes == c)) (trapped PinCount p) tail3 in
    cond-false (nat_le m i) (trapped NoInstance p) (block_by n i o limit (kind_of (block kind).number) (pin_bytes n p.cells (map codes (range_with_len 0 c))) next p) (lt-leb m i within)
    ∙ ap (λ x. block_by n i o limit x (pin_bytes n p.cells (map codes (range_with_len 0 c))) next p) (kind_of-number kind)
    ∙ ap (λ bs. block_as n i o limit kind bs next p) read
    ∙ cond-false (nat_lt n (o + output_count kind) || list_any is_missing bytes) (trapped OutOfRange p) tail2
    (or_from (nat_lt n (o + output_count kind)) (list_any is_missing bytes) (lt-leb (suc n) (o + output_count kind) (omega arith)) (none_missing pins (range_with_len 0 c)))
    ∙ cond-false (not (length bytes == c)) (trapped PinCount p) tail3 (ap not (eq-eqb (length bytes) c len))
    ∙ cond-false (list_any is_odd bytes) (trapped NotBoolean p) tail4 (none_odd pins (range_with_len 0 c))
    ∙ ap (λ f. after_step i o limit kind f next (loaded kind (instance_bytes 0 i p.blocks)) p) (λ x j. on j x)
    ∙ ap (λ x. after_step i o limit kind pins next x p) there

-- the outputs are written from signal o on
pub settled_holds : (n last passed : ℕ) (blocks : List ℕ) (p : Plain) (at i o next : ℕ) (kind : Kind) (kept : Kept) (count : ℕ) (v : ℕ → Bool) → Holds n last passed blocks p at v →
    length (outs kind kept.code kept.mode) ≡ count → o + count ≤ n →
    Holds n last passed (replaced blocks (16 * i) (stored kept)) (settled i o kind kept next p) next
    (called_signals o count (outs kind kept.code kept.mode) v)
settled_holds n last passed blocks p at i o next kind kept count v h len room =
    let vals = outs kind kept.code kept.mode in
    let bytes = map bit vals in
    let size : length bytes ≡ count = length-map vals bit ∙ len in
    let sized = h.sized in
    record {
      sized = length-replaced p.cells (WORK_CELLS + o) bytes (omega arith) ∙ h.sized;
      place = refl;
      running = h.running;
      kept_time = h.kept_time;
      time = h.time;
      signals = λ s l. elim (cases_lt s o) [
        | inl before ↦
            index_before p.cells (WORK_CELLS + o) bytes (WORK_CELLS + s) (omega arith) (omega arith) ∙ h.signals s l
            ∙ ap bit (sym (signal_before o count vals v s before))
        | inr from ↦ elim (cases_lt s (o + count)) [
          | inl to ↦
              let e : WORK_CELLS + s ≡ WORK_CELLS + o + (s - o) = omega arith in
              ap (slice_index (replaced p.cells (WORK_CELLS + o) bytes)) e ∙ index_within p.cells (WORK_CELLS + o) bytes (s - o) (omega arith) (omega arith)
              ∙ get_or-map bit vals (s - o) false 0 (omega arith)
              ∙ ap bit (sym (signal_inside o count vals v s from to))
          | inr after ↦
              index_after p.cells (WORK_CELLS + o) bytes (WORK_CELLS + s) (omega arith) (omega arith) ∙ h.signals s l
              ∙ ap bit (sym (signal_past o count vals v s from after))
        ]
      ];
      instances = ap (λ b. replaced b (16 * i) (stored kept)) h.instances;
    }
