-- What the cells hold while code runs, and what one turn makes of it.
use Rattle.std.proofs.Common.{◌⊎◌, inl, inr, ◌≡◌, ◌≢◌, ℕ, ◌+◌, ◌-◌, ◌^◌, ◌<◌, ◌≤◌, Bool, true, false, cond, List, [], ◌∷◌, ◌++◌, length, drop, Some, refl, sym, ap, ◌∙◌, subst, arith, length-append}
use Rattle.std.specs.Prelude.{slice_set, slice_index, slice_index_or, nat_le, nat_lt, ◌&&◌}
use Rattle.std.specs.Int.{w32, to_be_bytes}
use Rattle.std.proofs.lemmas.Grind.{common_steps}
use Rattle.std.proofs.lemmas.List.{same_lists, get_or_default, get_or-drop, length-drop}
use Rattle.std.proofs.lemmas.Bool.{lt-leb, le-leb, lt-ltb, cases_lt, cases_eq, cond-true, and_from}
use Rattle.ps_machine.specs.Bytes.{bit}
use Rattle.ps_machine.proofs.Places.{length-replaced, index_after, be4_within}
use Rattle.ps_decision.specs.declared.layout.TheConstants.{PINS_AT, PIN_CELLS, SIGNALS_AT, FIRST_PIN}
use Rattle.ps_decision.specs.declared.row.Row.{Row}
use Rattle.ps_decision.specs.declared.row.Row.TheVariants.{Decide, Set}
use Rattle.ps_decision.specs.Cells.{offset_of, progress_of, scan_time, place_of, with_offset}
use Rattle.ps_decision.specs.Rows.{size_of, fetched}
use Rattle.ps_decision.specs.Acting.{decided_at, set_at}
use Rattle.ps_decision.specs.Turn.{after, carried_out, turn_of}
use Rattle.ps_decision.proofs.PlacedRows.{Has}

-- reads after the place of the next row was written
pub offset_of-with_offset : (at : ℕ) (cells : List ℕ) → at < 2 ^ 32 → offset_of (with_offset at cells) ≡ at
offset_of-with_offset at cells h = be4_within cells 0 at (omega arith) h

pub index-with_offset : (at : ℕ) (cells : List ℕ) (k : ℕ) → 4 ≤ k → slice_index (with_offset at cells) k ≡ slice_index cells k
index-with_offset at cells k h = index_after cells 0 (to_be_bytes w32 at) k h (omega arith)

pub length-with_offset : (at : ℕ) (cells : List ℕ) → 4 ≤ length cells → length (with_offset at cells) ≡ length cells
length-with_offset at cells h = length-replaced cells 0 (to_be_bytes w32 at) h

-- n signals; the cells are those of a running machine at a place of the code, with these truth values in its first pin cells and in the signals, the scan's time and the
-- instances' bytes
pub record Holds (n now : ℕ) (blocks cells : List ℕ) (at : ℕ) (pins : List Bool) (v : ℕ → Bool) : Type 0 where
  pub sized : SIGNALS_AT + n ≤ length cells
  pub there : offset_of cells ≡ at
  pub running : progress_of cells ≡ 0
  pub time : scan_time cells ≡ now
  pub pinned : (j : ℕ) → j < length pins → slice_index cells (PINS_AT + j) ≡ bit (slice_index_or pins j false)
  pub few_pins : length pins ≤ PIN_CELLS
  pub signals : (s : ℕ) → s < n → slice_index cells (SIGNALS_AT + s) ≡ bit (v s)
  pub rest : drop (SIGNALS_AT + n) cells ≡ blocks

pub drop_ext : (k : ℕ) (xs ys : List ℕ) → length xs ≡ length ys → ((j : ℕ) → k ≤ j → slice_index xs j ≡ slice_index ys j) → drop k xs ≡ drop k ys
drop_ext k xs ys size same =
    let lx = length-drop k xs in
    let ly = length-drop k ys in
    let l : length (drop k xs) ≡ length (drop k ys) = omega arith in
    same_lists (drop k xs) (drop k ys) l (λ j d low.
    let low' : j < length (drop k ys) = omega arith in
    let past : k ≤ k + j = omega arith in
    get_or_default (drop k xs) j d 0 low ∙ get_or-drop k xs j 0 ∙ same (k + j) past ∙ sym (get_or-drop k ys j 0) ∙ sym (get_or_default (drop k ys) j d 0 low'))

pub time_same : (cells new : List ℕ) → ((k : ℕ) → 5 ≤ k → k < PINS_AT → slice_index new k ≡ slice_index cells k) → scan_time new ≡ scan_time cells
time_same cells new same =
    let h5 = same 5 (omega arith) (omega arith) in
    let h6 = same 6 (omega arith) (omega arith) in
    let h7 = same 7 (omega arith) (omega arith) in
    let h8 = same 8 (omega arith) (omega arith) in
    rw (h5, h6, h7, h8) refl

-- the machine goes on elsewhere
moved_holds : (n now : ℕ) (blocks cells : List ℕ) (at next : ℕ) (pins : List Bool) (v : ℕ → Bool) → Holds n now blocks cells at pins v → next < 2 ^ 32 →
    Holds n now blocks (with_offset next cells) next pins v
moved_holds n now blocks cells at next pins v h small =
    let size : SIGNALS_AT + n ≤ length cells = h.sized in
    let final = with_offset next cells in
    let whole : length final ≡ length cells = length-with_offset next cells (omega arith) in
    record {
      sized = omega arith;
      there = offset_of-with_offset next cells small;
      running = index-with_offset next cells 4 (omega arith) ∙ h.running;
      time = time_same cells final (λ k from to. index-with_offset next cells k (omega arith)) ∙ h.time;
      pinned = λ j l. index-with_offset next cells (PINS_AT + j) (omega arith) ∙ h.pinned j l;
      few_pins = h.few_pins;
      signals = λ s l. index-with_offset next cells (SIGNALS_AT + s) (omega arith) ∙ h.signals s l;
      rest = drop_ext (SIGNALS_AT + n) final cells whole (λ k from. index-with_offset next cells k (omega arith)) ∙ h.rest;
    }

-- a byte is the value of signal c from then on
signal_set_holds : (n now : ℕ) (blocks cells : List ℕ) (at next c : ℕ) (pins : List Bool) (v v' : ℕ → Bool) (b : Bool) → Holds n now blocks cells at pins v → next < 2 ^ 32 → c < n →
    v' c ≡ b → ((s : ℕ) → s ≢ c → v' s ≡ v s) → Holds n now blocks (with_offset next (slice_set cells (SIGNALS_AT + c) (bit b))) next pins v'
signal_set_holds n now blocks cells at next c pins v v' b h small within new same =
    let p = slice_set cells (SIGNALS_AT + c) (bit b) in
    let size : SIGNALS_AT + n ≤ length cells = h.sized in
    let few : length pins ≤ PIN_CELLS = h.few_pins in
    let e0 = length-with_offset next p (grind (arith, common_steps)) in
    let final = with_offset next p in
    let whole : length final ≡ length cells = e0 ∙ grind (arith, common_steps) in
    let off : (k : ℕ) → 4 ≤ k → k ≢ SIGNALS_AT + c → slice_index final k ≡ slice_index cells k = λ k from other. index-with_offset next p k from ∙ grind (arith, common_steps) in
    record {
      sized = omega arith;
      there = offset_of-with_offset next p small;
      running = off 4 (omega arith) (λ q. omega arith) ∙ h.running;
      time = time_same cells final (λ k from to. off k (omega arith) (λ q. omega arith)) ∙ h.time;
      pinned = λ j l. off (PINS_AT + j) (omega arith) (λ q. omega arith) ∙ h.pinned j l;
      few_pins = few;
      signals = λ s l. elim (cases_eq s c) [
        | inl is ↦ index-with_offset next p (SIGNALS_AT + s) (omega arith) ∙ grind (arith, common_steps, new)
        | inr other ↦ off (SIGNALS_AT + s) (omega arith) (λ q. other (omega (arith, q))) ∙ h.signals s l ∙ ap bit (sym (same s other))
      ];
      rest = drop_ext (SIGNALS_AT + n) final cells whole (λ k from. off k (omega arith) (λ q. omega arith)) ∙ h.rest;
    }

-- the elements of a list with one more at its end
last_or_before : (pins : List Bool) (b : Bool) (k : ℕ) → k < length (pins ++ b ∷ []) →
    ((k < length pins) × (slice_index_or (pins ++ b ∷ []) k false ≡ slice_index_or pins k false)) ⊎ ((k ≡ length pins) × (slice_index_or (pins ++ b ∷ []) k false ≡ b))
last_or_before pins b k l =
    elim (cases_lt k (length pins)) [ inl low ↦ inl (low, grind (arith, common_steps)) | inr high ↦ inr (grind (arith, common_steps), grind (arith, common_steps)) ]

-- a byte is the value of the next pin cell from then on
pin_set_holds : (n now : ℕ) (blocks cells : List ℕ) (at next : ℕ) (pins : List Bool) (v : ℕ → Bool) (b : Bool) → Holds n now blocks cells at pins v → next < 2 ^ 32 → length pins < PIN_CELLS →
    Holds n now blocks (with_offset next (slice_set cells (PINS_AT + length pins) (bit b))) next (pins ++ b ∷ []) v
pin_set_holds n now blocks cells at next pins v b h small low =
    let p = slice_set cells (PINS_AT + length pins) (bit b) in
    let size : SIGNALS_AT + n ≤ length cells = h.sized in
    let e0 = length-with_offset next p (grind (arith, common_steps)) in
    let final = with_offset next p in
    let whole : length final ≡ length cells = e0 ∙ grind (arith, common_steps) in
    let off : (k : ℕ) → 4 ≤ k → k ≢ PINS_AT + length pins → slice_index final k ≡ slice_index cells k = λ k from other. index-with_offset next p k from ∙ grind (arith, common_steps) in
    record {
      sized = omega arith;
      there = offset_of-with_offset next p small;
      running = off 4 (omega arith) (λ q. omega arith) ∙ h.running;
      time = time_same cells final (λ k from to. off k (omega arith) (λ q. omega arith)) ∙ h.time;
      pinned = λ j l. elim (last_or_before pins b j l) [
        | inl below ↦ let early = below.0 in off (PINS_AT + j) (omega arith) (λ q. omega arith) ∙ h.pinned j below.0 ∙ ap bit (sym below.1)
        | inr last ↦ index-with_offset next p (PINS_AT + j) (omega arith) ∙ grind (arith, common_steps, last.0) ∙ ap bit (sym last.1)
      ];
      few_pins = omega (arith, length-append pins (b ∷ []));
      signals = λ s l. off (SIGNALS_AT + s) (omega arith) (λ q. omega arith) ∙ h.signals s l;
      rest = drop_ext (SIGNALS_AT + n) final cells whole (λ k from. off k (omega arith) (λ q. omega arith)) ∙ h.rest;
    }

-- where the cells of operands stand
place_of-signal : (n s : ℕ) → n ≤ 4000 → s < n → place_of n s ≡ Some (SIGNALS_AT + s)
place_of-signal n s few low =
    let e1 : nat_le FIRST_PIN s ≡ false = lt-leb FIRST_PIN s (omega arith) in
    let e2 : nat_lt s n ≡ true = lt-ltb s n low in
    rw (e1, e2) refl

place_of-pin : (n j : ℕ) → j < PIN_CELLS → place_of n (FIRST_PIN + j) ≡ Some (PINS_AT + j)
place_of-pin n j low =
    let e1 : nat_le FIRST_PIN (FIRST_PIN + j) ≡ true = le-leb FIRST_PIN (FIRST_PIN + j) (omega arith) in
    let e2 : nat_lt (FIRST_PIN + j) (FIRST_PIN + PIN_CELLS) ≡ true = lt-ltb (FIRST_PIN + j) (FIRST_PIN + PIN_CELLS) (omega arith) in
    let e3 : FIRST_PIN + j - FIRST_PIN ≡ j = omega arith in
    cond-true (nat_le FIRST_PIN (FIRST_PIN + j) && nat_lt (FIRST_PIN + j) (FIRST_PIN + PIN_CELLS)) _ _ (and_from (nat_le FIRST_PIN (FIRST_PIN + j)) (nat_lt (FIRST_PIN + j) (FIRST_PIN + PIN_CELLS)) e1 e2)
    ∙ ap (λ k. Some (PINS_AT + k)) e3

-- no trap comes where nothing is wrong
decided_by : (p yes_at no_at : ℕ) (cells : List ℕ) (b : Bool) → slice_index cells p ≡ bit b → decided_at (Some p) yes_at no_at cells ≡ with_offset (cond b yes_at no_at) cells
decided_by p yes_at no_at cells true is = rw is refl
decided_by p yes_at no_at cells false is = rw is refl

set_goes : (p next : ℕ) (cells : List ℕ) (b : Bool) → set_at (Some p) (bit b) next cells ≡ with_offset next (slice_set cells p (bit b))
set_goes p next cells true = refl
set_goes p next cells false = refl

pub turn_is : (n m : ℕ) (code cells : List ℕ) (at : ℕ) (row : Row) → offset_of cells ≡ at → Has code at row → turn_of n m code cells ≡ after n m row (at + size_of row) cells
turn_is n m code cells at row is has =
    ap (λ p. carried_out n m (fetched code p) cells) is
    ∙ ap (λ r. carried_out n m r cells) has.found
    ∙ ap (λ p. after n m row (p + size_of row) cells) is

small_by : (b : Bool) (yes_at no_at : ℕ) → yes_at < 2 ^ 32 → no_at < 2 ^ 32 → cond b yes_at no_at < 2 ^ 32
small_by true yes_at no_at y n = y
small_by false yes_at no_at y n = n

module _ (n m : ℕ) (few : n ≤ 4000) (now : ℕ) (blocks code : List ℕ) where
  -- one turn at each row
  pub decide_turn : (cells : List ℕ) (at s yes_at no_at : ℕ) (pins : List Bool) (v : ℕ → Bool) → Has code at (Decide s yes_at no_at) → Holds n now blocks cells at pins v → s < n →
      Holds n now blocks (turn_of n m code cells) (cond (v s) yes_at no_at) pins v
  decide_turn cells at s yes_at no_at pins v has h low =
      let e = turn_is n m code cells at (Decide s yes_at no_at) h.there has
      ∙ ap (λ o. decided_at o yes_at no_at cells) (place_of-signal n s few low)
      ∙ decided_by (SIGNALS_AT + s) yes_at no_at cells (v s) (h.signals s low) in
      subst (λ c. Holds n now blocks c (cond (v s) yes_at no_at) pins v) (sym e)
      (moved_holds n now blocks cells at (cond (v s) yes_at no_at) pins v h (small_by (v s) yes_at no_at has.short.1 has.short.2))

  pub signal_turn : (cells : List ℕ) (at c next : ℕ) (pins : List Bool) (v v' : ℕ → Bool) (b : Bool) → Has code at (Set c (bit b) next) → Holds n now blocks cells at pins v → c < n →
      v' c ≡ b → ((s : ℕ) → s ≢ c → v' s ≡ v s) → Holds n now blocks (turn_of n m code cells) next pins v'
  signal_turn cells at c next pins v v' b has h low new same =
      let e = turn_is n m code cells at (Set c (bit b) next) h.there has
      ∙ ap (λ o. set_at o (bit b) next cells) (place_of-signal n c few low)
      ∙ set_goes (SIGNALS_AT + c) next cells b in
      subst (λ x. Holds n now blocks x next pins v') (sym e) (signal_set_holds n now blocks cells at next c pins v v' b h has.short.2 low new same)

  pub pin_turn : (cells : List ℕ) (at j next : ℕ) (pins : List Bool) (v : ℕ → Bool) (b : Bool) → Has code at (Set (FIRST_PIN + j) (bit b) next) → Holds n now blocks cells at pins v → length pins ≡ j → j < PIN_CELLS →
      Holds n now blocks (turn_of n m code cells) next (pins ++ b ∷ []) v
  pin_turn cells at j next pins v b has h many low =
      let e = turn_is n m code cells at (Set (FIRST_PIN + j) (bit b) next) h.there has
      ∙ ap (λ o. set_at o (bit b) next cells) (place_of-pin n j low)
      ∙ set_goes (PINS_AT + j) next cells b
      ∙ ap (λ k. with_offset next (slice_set cells (PINS_AT + k) (bit b))) (sym many) in
      subst (λ x. Holds n now blocks x next (pins ++ b ∷ []) v) (sym e) (pin_set_holds n now blocks cells at next pins v b h has.short.2 (omega arith))
