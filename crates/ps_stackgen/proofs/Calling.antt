-- One turn at a CALL.
use Rattle.std.proofs.Common.{◌⊎◌, inl, inr, ◌≡◌, ◌≢◌, ℕ, suc, ◌+◌, ◌-◌, ◌*◌, ◌^◌, ◌<◌, ◌≤◌, Bool, false, List, [], ◌∷◌, length, take, drop, map, refl, sym, ap, ◌∙◌, subst, arith, length-drop, Some, lit<, lit≤}
use Rattle.std.specs.Prelude.{slice_index, slice_index_or, nat_le, nat_lt, ◌==◌, ◌||◌}
use Rattle.std.specs.List.{list_any}
use Rattle.std.proofs.lemmas.List.{same_lists, get_or_default, get_or-drop, get_or-take, get_or-map, get_or_past, length-map, length-take-le}
use Rattle.std.proofs.lemmas.Grind.{common_steps}
use Rattle.std.proofs.lemmas.Bool.{lt-leb, cases_lt, cond-false}
use Rattle.ps_model.specs.declared.kind.Kind.{Kind}
use Rattle.ps_model.specs.Blocks.{block, outs, output_count}
use Rattle.ps_model.specs.Budgets.{boolean_count}
use Rattle.ps_model.specs.Kept.{Kept, stepped_at}
use Rattle.ps_model.specs.Stored.{stored, loaded}
use Rattle.ps_model.proofs.Sixteen.{bit_is_one}
use Rattle.ps_machine.specs.Bytes.{bit, is_no_bit, replaced}
use Rattle.ps_machine.proofs.Bits.{bit_is_bit}
use Rattle.ps_machine.proofs.CalledSignals.{called_signals, signal_inside, signal_before, signal_past}
use Rattle.ps_machine.proofs.Instances.{bytes_at, block_is}
use Rattle.ps_machine.proofs.KindsByNumber.{kind_of-number}
use Rattle.ps_machine.proofs.Places.{length-replaced, index_before, index_within, index_after}
use Rattle.ps_stackvm.specs.declared.layout.TheConstants.{SIGNALS_AT}
use Rattle.ps_stackvm.specs.declared.instruction.Instruction.TheVariants.{Call}
use Rattle.ps_stackvm.specs.Cells.{height_of, scan_time, block_bytes, with_pc, with_height}
use Rattle.ps_stackvm.specs.Calling.{topmost, pins_in, stepped_to, called_with, called_by, after_call}
use Rattle.ps_stackvm.specs.Turn.{turn_of}
use Rattle.ps_stackgen.proofs.Instructions.{Has}
use Rattle.ps_stackgen.proofs.Holding.{Holds, turn_is, time_same, pc_of-with_pc, index-with_pc, length-with_pc}

-- the stack is just the pins
pins_on_top : (n now : ℕ) (blocks cells : List ℕ) (pc : ℕ) (pins : List Bool) (v : ℕ → Bool) → Holds n now blocks cells pc pins v → length pins ≤ 64 →
    topmost (length pins) cells ≡ map bit pins
pins_on_top n now blocks cells pc pins v h low =
    let c = length pins in
    let from : 10 + (height_of cells - c) ≡ 10 = omega (arith, h.height) in
    let size = h.sized in
    let ld = length-drop 10 cells in
    let lt = length-take-le c (drop 10 cells) (omega arith) in
    ap (λ p. take c (drop p cells)) from
    ∙ same_lists (take c (drop 10 cells)) (map bit pins) (lt ∙ sym (length-map pins bit)) (λ k d in'.
    let low' : k < c = omega arith in
    let low'' : k < length (map bit pins) = omega (arith, length-map pins bit) in
    get_or_default (take c (drop 10 cells)) k d 0 in' ∙ get_or-take c (drop 10 cells) k 0 low' ∙ get_or-drop 10 cells k 0
    ∙ h.holds k low' ∙ sym (get_or-map bit pins k false 0 low') ∙ sym (get_or_default (map bit pins) k d 0 low''))

none_odd : (pins : List Bool) → list_any is_no_bit (map bit pins) ≡ false
none_odd [] = refl
none_odd (b ∷ pins) = ap (λ x. x || list_any is_no_bit (map bit pins)) (bit_is_bit b) ∙ none_odd pins

-- pin j of the popped bytes
pin_is : (pins : List Bool) (j : ℕ) → pins_in (map bit pins) j ≡ slice_index_or pins j false
pin_is pins j =
    elim (cases_lt j (length pins)) [
      | inl low ↦ ap (λ b. b == 1) (get_or-map bit pins j false 0 low) ∙ bit_is_one (slice_index_or pins j false)
      | inr past ↦ ap (λ b. b == 1) (get_or_past (map bit pins) j 0 (omega (arith, length-map pins bit))) ∙ sym (get_or_past pins j false past)
    ]

pub call_goes : (n m i o limit next now : ℕ) (kind : Kind) (blocks cells : List ℕ) (pc : ℕ) (pins : List Bool) (v : ℕ → Bool) (kept : Kept) →
    Holds n now blocks cells pc pins v → i < m → o + output_count kind ≤ n → length pins ≡ boolean_count kind → length pins ≤ 64 → loaded kind (bytes_at i blocks) ≡ Some kept →
    after_call n m i (block kind).number o limit next cells
    ≡ stepped_to n i o next kind (stepped_at kind limit (λ j. slice_index_or pins j false) now kept) cells
call_goes n m i o limit next now kind blocks cells pc pins v kept h within room many low there =
    let e1 = lt-leb m i within in
    let e2 : nat_lt n (o + output_count kind) ≡ false = lt-leb (suc n) (o + output_count kind) (omega arith) in
    let e3 : nat_lt 64 (height_of cells) ≡ false = lt-leb 65 (height_of cells) (omega (arith, h.height)) in
    let e4 : nat_lt (height_of cells) (boolean_count kind) ≡ false = lt-leb (suc (height_of cells)) (boolean_count kind) (omega (arith, h.height)) in
    let top : topmost (boolean_count kind) cells ≡ map bit pins = ap (λ c. topmost c cells) (sym many) ∙ pins_on_top n now blocks cells pc pins v h low in
    let found : loaded kind (block_bytes n i cells) ≡ Some kept = ap (loaded kind) (block_is (SIGNALS_AT + n) i cells blocks h.rest) ∙ there in
    let odd : list_any is_no_bit (topmost (boolean_count kind) cells) ≡ false = ap (list_any is_no_bit) top ∙ none_odd pins in
    let pins_are : pins_in (topmost (boolean_count kind) cells) ≡ (λ j. slice_index_or pins j false) = ap pins_in top ∙ (λ x j. pin_is pins j x) in
    cond-false (nat_le m i) _ _ e1
    ∙ ap (λ k. called_by n i o limit next k cells) (kind_of-number kind)
    ∙ cond-false (nat_lt n (o + output_count kind)) _ _ e2
    ∙ cond-false (nat_lt 64 (height_of cells) || nat_lt (height_of cells) (boolean_count kind)) _ _ (ap (λ b. b || nat_lt (height_of cells) (boolean_count kind)) e3 ∙ e4)
    ∙ cond-false (list_any is_no_bit (topmost (boolean_count kind) cells)) _ _ odd
    ∙ ap (λ k. called_with n i o limit next kind k cells) found
    ∙ ap (λ p. stepped_to n i o next kind (stepped_at kind limit p (scan_time cells) kept) cells) pins_are
    ∙ ap (λ t. stepped_to n i o next kind (stepped_at kind limit (λ j. slice_index_or pins j false) t kept) cells) h.time

-- the numbers that a CALL's writes leave where they are: the height, the sixteen bytes, and the outputs
module _ (n i o next height : ℕ) (st os cells : List ℕ) (size : length st ≡ 16) (room : SIGNALS_AT + n + 16 * i + 16 ≤ length cells) (fit : o + length os ≤ n) where
  c1 : List ℕ
  c1 = with_height height cells

  c2 : List ℕ
  c2 = replaced c1 (SIGNALS_AT + n + 16 * i) st

  c3 : List ℕ
  c3 = replaced c2 (SIGNALS_AT + o) os

  l1 : length c1 ≡ length cells
  unfolding c1
  l1 = grind (arith, common_steps)

  l2 : length c2 ≡ length cells
  unfolding c2
  l2 = length-replaced c1 (SIGNALS_AT + n + 16 * i) st (omega (arith, l1)) ∙ l1

  l3 : length c3 ≡ length cells
  unfolding c3
  l3 = length-replaced c2 (SIGNALS_AT + o) os (omega (arith, l2)) ∙ l2

  l4 : length (with_pc next c3) ≡ length cells
  l4 = length-with_pc next c3 (omega (arith, l3)) ∙ l3

  called_is : with_pc next (replaced (replaced (with_height height cells) (SIGNALS_AT + n + 16 * i) st) (SIGNALS_AT + o) os) ≡ with_pc next c3
  unfolding c1 c2 c3
  called_is = refl

  -- below the signals nothing but the height changes
  low_same : (k : ℕ) → 4 ≤ k → k < SIGNALS_AT → slice_index (with_pc next c3) k ≡ slice_index c1 k
  unfolding c2 c3
  low_same k from to =
      index-with_pc next c3 k from
      ∙ index_before c2 (SIGNALS_AT + o) os k (omega arith) (omega (arith, l2))
      ∙ index_before c1 (SIGNALS_AT + n + 16 * i) st k (omega arith) (omega (arith, l1))

  height_is : slice_index c1 4 ≡ height
  unfolding c1
  height_is = grind (arith, common_steps)

  c1_same : (k : ℕ) → k ≢ 4 → slice_index c1 k ≡ slice_index cells k
  unfolding c1
  c1_same k other = grind (arith, common_steps)

  -- the outputs
  out_is : (j : ℕ) → j < length os → slice_index (with_pc next c3) (SIGNALS_AT + (o + j)) ≡ slice_index os j
  unfolding c3
  out_is j low =
      let e : SIGNALS_AT + (o + j) ≡ SIGNALS_AT + o + j = omega arith in
      index-with_pc next c3 (SIGNALS_AT + (o + j)) (omega arith)
      ∙ ap (slice_index c3) e
      ∙ index_within c2 (SIGNALS_AT + o) os j low (omega (arith, l2))

  -- every other signal
  signal_same : (k : ℕ) → k < n → ((k < o) ⊎ (o + length os ≤ k)) → slice_index (with_pc next c3) (SIGNALS_AT + k) ≡ slice_index cells (SIGNALS_AT + k)
  unfolding c1 c2 c3
  signal_same k low side =
      index-with_pc next c3 (SIGNALS_AT + k) (omega arith)
      ∙ elim side [
        | inl before ↦ index_before c2 (SIGNALS_AT + o) os (SIGNALS_AT + k) (omega arith) (omega (arith, l2))
        | inr past ↦ index_after c2 (SIGNALS_AT + o) os (SIGNALS_AT + k) (omega arith) (omega (arith, l2))
      ]
      ∙ index_before c1 (SIGNALS_AT + n + 16 * i) st (SIGNALS_AT + k) (omega arith) (omega (arith, l1))
      ∙ grind (arith, common_steps)

  -- the instances' bytes
  rest_is : drop (SIGNALS_AT + n) (with_pc next c3) ≡ replaced (drop (SIGNALS_AT + n) cells) (16 * i) st
  unfolding c1 c2 c3
  rest_is =
      let blocks = drop (SIGNALS_AT + n) cells in
      let place = SIGNALS_AT + n + 16 * i in
      let lb = length-drop (SIGNALS_AT + n) cells in
      let ln = length-drop (SIGNALS_AT + n) (with_pc next c3) in
      let lr = length-replaced blocks (16 * i) st (omega arith) in
      let len : length (drop (SIGNALS_AT + n) (with_pc next c3)) ≡ length (replaced blocks (16 * i) st) = omega (arith, l4) in
      same_lists (drop (SIGNALS_AT + n) (with_pc next c3)) (replaced blocks (16 * i) st) len (λ k d low.
      let low' : k < length (replaced blocks (16 * i) st) = omega arith in
      let there = get_or-drop (SIGNALS_AT + n) (with_pc next c3) k 0 in
      let on = index-with_pc next c3 (SIGNALS_AT + n + k) (omega arith) ∙ index_after c2 (SIGNALS_AT + o) os (SIGNALS_AT + n + k) (omega arith) (omega (arith, l2)) in
      let from = get_or_default (drop (SIGNALS_AT + n) (with_pc next c3)) k d 0 low in
      let to = get_or_default (replaced blocks (16 * i) st) k 0 d low' in
      let mid : slice_index c2 (SIGNALS_AT + n + k) ≡ slice_index (replaced blocks (16 * i) st) k =
      elim (cases_lt k (16 * i)) [
        | inl before ↦
            index_before c1 place st (SIGNALS_AT + n + k) (omega arith) (omega (arith, l1))
            ∙ grind (arith, common_steps)
            ∙ sym (get_or-drop (SIGNALS_AT + n) cells k 0)
            ∙ sym (index_before blocks (16 * i) st k before (omega arith))
        | inr past ↦ elim (cases_lt k (16 * i + 16)) [
          | inl within ↦
              let j = k - 16 * i in
              let e1 : SIGNALS_AT + n + k ≡ place + j = omega arith in
              let e2 : 16 * i + j ≡ k = omega arith in
              ap (slice_index c2) e1
              ∙ index_within c1 place st j (omega arith) (omega (arith, l1))
              ∙ sym (index_within blocks (16 * i) st j (omega arith) (omega arith))
              ∙ ap (slice_index (replaced blocks (16 * i) st)) e2
          | inr after ↦
              index_after c1 place st (SIGNALS_AT + n + k) (omega arith) (omega (arith, l1))
              ∙ grind (arith, common_steps)
              ∙ sym (get_or-drop (SIGNALS_AT + n) cells k 0)
              ∙ sym (index_after blocks (16 * i) st k (omega arith) (omega arith))
        ]
      ] in
      from ∙ there ∙ on ∙ mid ∙ to)

pub call_holds : (n now i o next count wide : ℕ) (blocks cells : List ℕ) (pc : ℕ) (pins os : List Bool) (v : ℕ → Bool) (st : List ℕ) →
    Holds n now blocks cells pc pins v → next < 2 ^ 32 → length pins ≡ count → length os ≡ wide → o + wide ≤ n → 16 * i + 16 ≤ length blocks → length st ≡ 16 →
    Holds n now (replaced blocks (16 * i) st) (with_pc next (replaced (replaced (with_height (height_of cells - count) cells) (SIGNALS_AT + n + 16 * i) st) (SIGNALS_AT + o) (map bit os))) next []
    (called_signals o wide os v)
call_holds n now i o next count wide blocks cells pc pins os v st h small many shown room inside size =
    let lr = ap length h.rest in
    let ld = length-drop (SIGNALS_AT + n) cells in
    let fits : SIGNALS_AT + n + 16 * i + 16 ≤ length cells = omega (arith, h.sized) in
    let ob = map bit os in
    let lo : length ob ≡ length os = length-map os bit in
    let room' : o + length ob ≤ n = omega arith in
    let hh = height_of cells - count in
    let empty : hh ≡ 0 = omega (arith, h.height) in
    let final = with_pc next (c3 n i o next hh st ob cells size fits room') in
    let low_is = low_same n i o next hh st ob cells size fits room' in
    let same = c1_same n i o next hh st ob cells size fits room' in
    let held : Holds n now (replaced blocks (16 * i) st) final next [] (called_signals o wide os v) = record {
      sized = omega (arith, h.sized, l4 n i o next hh st ob cells size fits room');
      at = pc_of-with_pc next (c3 n i o next hh st ob cells size fits room') small;
      height = low_is 4 (lit≤ tt) (lit< tt) ∙ height_is n i o next hh st ob cells size fits room' ∙ empty;
      running = low_is 5 (lit≤ tt) (lit< tt) ∙ same 5 (λ p. omega arith) ∙ h.running;
      time = time_same cells final (λ k from to. low_is k (omega arith) (omega arith) ∙ same k (λ p. omega arith)) ∙ h.time;
      holds = λ k l. absurd (omega arith);
      signals = λ k l. elim (cases_lt k o) [
        | inl before ↦ signal_same n i o next hh st ob cells size fits room' k l (inl before) ∙ h.signals k l ∙ ap bit (sym (signal_before o wide os v k before))
        | inr from ↦ elim (cases_lt k (o + wide)) [
          | inl within ↦
              let j = k - o in
              let e : o + j ≡ k = omega arith in
              let here : j < length os = omega arith in
              ap (λ p. slice_index final (SIGNALS_AT + p)) (sym e)
              ∙ out_is n i o next hh st ob cells size fits room' j (omega arith)
              ∙ get_or-map bit os j false 0 here
              ∙ ap bit (sym (signal_inside o wide os v k from within))
          | inr past ↦ signal_same n i o next hh st ob cells size fits room' k l (inr (omega arith)) ∙ h.signals k l ∙ ap bit (sym (signal_past o wide os v k from past))
        ]
      ];
      rest = rest_is n i o next hh st ob cells size fits room' ∙ ap (λ b. replaced b (16 * i) st) h.rest;
    } in
    subst (λ c. Holds n now (replaced blocks (16 * i) st) c next [] (called_signals o wide os v)) (sym (called_is n i o next hh st ob cells size fits room')) held

pub call_turn : (n m now : ℕ) (blocks code cells : List ℕ) (pc i o limit : ℕ) (kind : Kind) (pins : List Bool) (v : ℕ → Bool) (kept : Kept) →
    Has code pc (Call i (block kind).number o limit) → Holds n now blocks cells pc pins v → length pins ≡ boolean_count kind → length pins ≤ 64 → i < m →
    length (outs kind (stepped_at kind limit (λ j. slice_index_or pins j false) now kept).code (stepped_at kind limit (λ j. slice_index_or pins j false) now kept).mode) ≡ output_count kind →
    o + output_count kind ≤ n → 16 * i + 16 ≤ length blocks → loaded kind (bytes_at i blocks) ≡ Some kept →
    Holds n now (replaced blocks (16 * i) (stored (stepped_at kind limit (λ j. slice_index_or pins j false) now kept))) (turn_of n m code cells) (pc + 10) []
    (called_signals o (output_count kind) (outs kind (stepped_at kind limit (λ j. slice_index_or pins j false) now kept).code (stepped_at kind limit (λ j. slice_index_or pins j false) now kept).mode) v)
call_turn n m now blocks code cells pc i o limit kind pins v kept has h many low within shown room inside there =
    let k' : Kept = stepped_at kind limit (λ j. slice_index_or pins j false) now kept in
    let os = outs kind k'.code k'.mode in
    let e = turn_is n m code cells pc (Call i (block kind).number o limit) h.at has
    ∙ call_goes n m i o limit (pc + 10) now kind blocks cells pc pins v kept h within room many low there in
    subst (λ y. Holds n now (replaced blocks (16 * i) (stored k')) y (pc + 10) [] (called_signals o (output_count kind) os v)) (sym e)
    (call_holds n now i o (pc + 10) (boolean_count kind) (output_count kind) blocks cells pc pins os v (stored k') h has.small many shown room inside refl)
