-- Code that is written part by part: what each operand, pin and step adds to its bytes.
use Rattle.std.proofs.Common.{◌≡◌, ℕ, zero, suc, ◌+◌, ◌*◌, ◌^◌, Bool, ◌<◌, ◌≤◌, cond, List, [], ◌∷◌, ◌++◌, length, take, drop, map, Some, refl, sym, ap, ◌∙◌, inl, inr, arith, append_assoc, append-nil, length-append}
use Rattle.std.specs.Prelude.{◌==◌, slice_get}
use Rattle.std.specs.List.{range_with_len}
use Rattle.std.proofs.lemmas.Bool.{cases_eq, cond-true, cond-false, eq-eqb, ne_eqb}
use Rattle.std.proofs.lemmas.List.{map-id, drop_more}
use Rattle.std.proofs.lemmas.List.FromFn.{map-range_with_len_more}
use Rattle.std.proofs.lemmas.Option.{slice_get_within, get_or_from_slice_get}
use Rattle.ps_model.specs.Action.{Action, Actual}
use Rattle.ps_model.specs.Budgets.{IsCall}
use Rattle.ps_model.specs.Exprs.{operands}
use Rattle.ps_model.specs.Formula.{Formula, Formulas, operand}
use Rattle.ps_model.specs.Network.{Network}
use Rattle.ps_model.proofs.Once.{take_next}
use Rattle.ps_decision.specs.declared.row.Row.{Row}
use Rattle.ps_decision.specs.declared.row.Row.TheVariants.{Set}
use Rattle.ps_decision.specs.Budget.{decisions_below, count_at_pin, count_of_step}
use Rattle.ps_decision.specs.Code.{size_all, behind_value, if_last, value_rows, all_rows, any_rows, assigned_rows, pin_rows, in_order, step_rows}
use Rattle.ps_decision.specs.Rows.{encoded, bytes_of}
use Rattle.ps_decision.proofs.Counted.{size_of_value, pin_are, step_are}
use Rattle.ps_decision.proofs.PlacedRows.{size_all-append, length-bytes, bytes-append, sizes_at_most}

-- ---- operands of a group
module _ {X : Type 0} (f : X → Formula) (last more : ℕ) where
  last_behind : (xs : List X) (k : ℕ) → k ≡ length xs → if_last (operands (map f (drop k xs))) last more ≡ last
  last_behind [] zero h = refl
  last_behind [] (suc k) h = absurd (omega arith)
  last_behind (x ∷ xs) zero h = absurd (omega arith)
  last_behind (x ∷ xs) (suc k) h = last_behind xs k (omega arith)

  more_behind : (xs : List X) (k : ℕ) → k < length xs → if_last (operands (map f (drop k xs))) last more ≡ more
  more_behind [] k h = absurd (omega arith)
  more_behind (x ∷ xs) zero h = refl
  more_behind (x ∷ xs) (suc k) h = more_behind xs k (omega arith)

  -- whether the operand before place k is the last
  pub ends_there : (xs : List X) (k : ℕ) → k ≤ length xs → cond (k == length xs) last more ≡ if_last (operands (map f (drop k xs))) last more
  ends_there xs k h = elim (cases_eq k (length xs)) [
    | inl same ↦ cond-true (k == length xs) last more (eq-eqb k (length xs) same) ∙ sym (last_behind xs k same)
    | inr other ↦ cond-false (k == length xs) last more (ne_eqb k (length xs) other) ∙ sym (more_behind xs k (omega (arith, h, other)))
  ]

value_behind : (code : List ℕ) (e : Formula) (yes_at no_at : ℕ) → length (code ++ bytes_of (value_rows e (length code) yes_at no_at)) ≡ behind_value (length code) e
value_behind code e yes_at no_at =
    let rows = value_rows e (length code) yes_at no_at in
    omega (arith, length-append code (bytes_of rows), length-bytes rows, size_of_value e (length code) yes_at no_at)

-- one more operand of an AND
pub all_next : (code : List ℕ) (e : Formula) (es : Formulas) (yes_at no_at goes : ℕ) → goes ≡ if_last es yes_at (behind_value (length code) e) → (new : List ℕ) →
    new ≡ code ++ bytes_of (value_rows e (length code) goes no_at) →
    new ++ bytes_of (all_rows es (length new) yes_at no_at) ≡ code ++ bytes_of (all_rows (operand e es) (length code) yes_at no_at)
all_next code e es yes_at no_at goes is new written =
    let at = length code in
    let behind = behind_value at e in
    let len : length new ≡ behind = ap length written ∙ value_behind code e goes no_at in
    ap (λ k. new ++ bytes_of (all_rows es k yes_at no_at)) len
    ∙ ap (λ l. l ++ bytes_of (all_rows es behind yes_at no_at)) written
    ∙ append_assoc code (bytes_of (value_rows e at goes no_at)) (bytes_of (all_rows es behind yes_at no_at))
    ∙ ap (λ l. code ++ l) (sym (bytes-append (value_rows e at goes no_at) (all_rows es behind yes_at no_at)))
    ∙ ap (λ g. code ++ bytes_of (value_rows e at g no_at ++ all_rows es behind yes_at no_at)) is

-- one more operand of an OR
pub any_next : (code : List ℕ) (e : Formula) (es : Formulas) (yes_at no_at goes : ℕ) → goes ≡ if_last es no_at (behind_value (length code) e) → (new : List ℕ) →
    new ≡ code ++ bytes_of (value_rows e (length code) yes_at goes) →
    new ++ bytes_of (any_rows es (length new) yes_at no_at) ≡ code ++ bytes_of (any_rows (operand e es) (length code) yes_at no_at)
any_next code e es yes_at no_at goes is new written =
    let at = length code in
    let behind = behind_value at e in
    let len : length new ≡ behind = ap length written ∙ value_behind code e yes_at goes in
    ap (λ k. new ++ bytes_of (any_rows es k yes_at no_at)) len
    ∙ ap (λ l. l ++ bytes_of (any_rows es behind yes_at no_at)) written
    ∙ append_assoc code (bytes_of (value_rows e at yes_at goes)) (bytes_of (any_rows es behind yes_at no_at))
    ∙ ap (λ l. code ++ l) (sym (bytes-append (value_rows e at yes_at goes) (any_rows es behind yes_at no_at)))
    ∙ ap (λ g. code ++ bytes_of (value_rows e at yes_at g ++ any_rows es behind yes_at no_at)) is

-- the operand at a place and those after it
next_operand : {X : Type 0} (f : X → Formula) (all : List X) (place : ℕ) (x : X) → slice_get all place ≡ Some x →
    operands (map f (drop place all)) ≡ operand (f x) (operands (map f (drop (place + 1) all)))
next_operand f all place x there =
    ap (λ l. operands (map f l))
    (drop_more all place x (slice_get_within all place x there) ∙ ap (λ y. y ∷ drop (place + 1) all) (get_or_from_slice_get all place x x there))

-- what is written and what the operands of an AND that are left will write are the whole, and there is room for it
pub record AllWritten {X : Type 0} (f : X → Formula) (all : List X) (whole : List ℕ) (yes_at no_at : ℕ) (code : List ℕ) (place : ℕ) : Type 0 where
  pub written : code ++ bytes_of (all_rows (operands (map f (drop place all))) (length code) yes_at no_at) ≡ whole
  pub room : length code + 11 * decisions_below (operands (map f (drop place all))) < 2 ^ 32

-- the same for an OR
pub record AnyWritten {X : Type 0} (f : X → Formula) (all : List X) (whole : List ℕ) (yes_at no_at : ℕ) (code : List ℕ) (place : ℕ) : Type 0 where
  pub written : code ++ bytes_of (any_rows (operands (map f (drop place all))) (length code) yes_at no_at) ≡ whole
  pub room : length code + 11 * decisions_below (operands (map f (drop place all))) < 2 ^ 32

module _ {X : Type 0} (f : X → Formula) (all : List X) (whole : List ℕ) (yes_at no_at : ℕ) (code new : List ℕ) (place goes : ℕ) (x : X) (there : slice_get all place ≡ Some x) where
  pub all_more : AllWritten f all whole yes_at no_at code place → goes ≡ cond (place + 1 == length all) yes_at (behind_value (length code) (f x)) →
      new ≡ code ++ bytes_of (value_rows (f x) (length code) goes no_at) → AllWritten f all whole yes_at no_at new (place + 1)
  all_more so-far is written =
      let low = slice_get_within all place x there in
      let behind = behind_value (length code) (f x) in
      let later = operands (map f (drop (place + 1) all)) in
      let next = next_operand f all place x there in
      let where_to : goes ≡ if_last later yes_at behind = is ∙ ends_there f yes_at behind all (place + 1) (omega arith) in
      record {
        written = all_next code (f x) later yes_at no_at goes where_to new written
            ∙ ap (λ o. code ++ bytes_of (all_rows o (length code) yes_at no_at)) (sym next) ∙ so-far.written;
        room = omega (arith, ap length written ∙ value_behind code (f x) goes no_at, ap decisions_below next, so-far.room);
      }

  pub any_more : AnyWritten f all whole yes_at no_at code place → goes ≡ cond (place + 1 == length all) no_at (behind_value (length code) (f x)) →
      new ≡ code ++ bytes_of (value_rows (f x) (length code) yes_at goes) → AnyWritten f all whole yes_at no_at new (place + 1)
  any_more so-far is written =
      let low = slice_get_within all place x there in
      let behind = behind_value (length code) (f x) in
      let later = operands (map f (drop (place + 1) all)) in
      let next = next_operand f all place x there in
      let where_to : goes ≡ if_last later no_at behind = is ∙ ends_there f no_at behind all (place + 1) (omega arith) in
      record {
        written = any_next code (f x) later yes_at no_at goes where_to new written
            ∙ ap (λ o. code ++ bytes_of (any_rows o (length code) yes_at no_at)) (sym next) ∙ so-far.written;
        room = omega (arith, ap length written ∙ value_behind code (f x) yes_at goes, ap decisions_below next, so-far.room);
      }

-- ---- parts in order
module _ {X : Type 0} (rows : X → (at : ℕ) → List Row) where
  in_order-more : (xs : List X) (x : X) (at : ℕ) → in_order rows (xs ++ x ∷ []) at ≡ in_order rows xs at ++ rows x (at + size_all (in_order rows xs at))
  in_order-more [] x at = let e : at ≡ at + 0 = omega arith in append-nil (rows x at) ∙ ap (rows x) e
  in_order-more (y ∷ xs) x at =
      let here = rows y at in
      let next = at + size_all here in
      let rest = in_order rows xs next in
      let e : next + size_all rest ≡ at + size_all (here ++ rest) = omega (arith, size_all-append here rest) in
      ap (λ l. here ++ l) (in_order-more xs x next ∙ ap (λ k. rest ++ rows x k) e) ∙ sym (append_assoc here rest (rows x (at + size_all (here ++ rest))))

  -- the bytes with those of one more part
  part_next : (before : List ℕ) (xs : List X) (x : X) (code : List ℕ) → code ≡ before ++ bytes_of (in_order rows xs (length before)) → (new : List ℕ) →
      new ≡ code ++ bytes_of (rows x (length code)) → new ≡ before ++ bytes_of (in_order rows (xs ++ x ∷ []) (length before))
  part_next before xs x code so-far new written =
      let at = length before in
      let done = in_order rows xs at in
      let len : length code ≡ at + size_all done = ap length so-far ∙ length-append before (bytes_of done) ∙ ap (λ k. at + k) (length-bytes done) in
      written
      ∙ ap (λ k. code ++ bytes_of (rows x k)) len
      ∙ ap (λ l. l ++ bytes_of (rows x (at + size_all done))) so-far
      ∙ append_assoc before (bytes_of done) (bytes_of (rows x (at + size_all done)))
      ∙ ap (λ l. before ++ l) (sym (bytes-append done (rows x (at + size_all done))) ∙ ap bytes_of (sym (in_order-more xs x at)))

  -- one more element of a list
  pub element_next : (before : List ℕ) (xs : List X) (k : ℕ) (x : X) → slice_get xs k ≡ Some x → (code : List ℕ) → code ≡ before ++ bytes_of (in_order rows (take k xs) (length before)) → (new : List ℕ) →
      new ≡ code ++ bytes_of (rows x (length code)) → new ≡ before ++ bytes_of (in_order rows (take (k + 1) xs) (length before))
  element_next before xs k x there code so-far new written =
      let next : suc k ≡ k + 1 = omega arith in
      part_next before (take k xs) x code so-far new written
      ∙ ap (λ l. before ++ bytes_of (in_order rows l (length before))) (sym (take_next xs k x there))
      ∙ ap (λ n. before ++ bytes_of (in_order rows (take n xs) (length before))) next

-- one more number
pub number_next : (rows : ℕ → (at : ℕ) → List Row) (before : List ℕ) (j : ℕ) (code : List ℕ) → code ≡ before ++ bytes_of (in_order rows (range_with_len 0 j) (length before)) → (new : List ℕ) →
    new ≡ code ++ bytes_of (rows j (length code)) → new ≡ before ++ bytes_of (in_order rows (range_with_len 0 (j + 1)) (length before))
number_next rows before j code so-far new written =
    let more : range_with_len 0 (j + 1) ≡ range_with_len 0 j ++ j ∷ [] =
    sym (map-id (range_with_len 0 (j + 1))) ∙ map-range_with_len_more (λ x. x) 0 j j (omega arith) ∙ ap (λ l. l ++ j ∷ []) (map-id (range_with_len 0 j)) in
    part_next rows before (range_with_len 0 j) j code so-far new written
    ∙ ap (λ l. before ++ bytes_of (in_order rows l (length before))) (sym more)

-- ---- a value and its target
pub assigned_written : (old : List ℕ) (target : ℕ) (e : Formula) (set next : ℕ) → set ≡ behind_value (length old) e → next ≡ set + 16 → (first second last : List ℕ) →
    first ≡ old ++ bytes_of (value_rows e (length old) set (set + 8)) → second ≡ first ++ encoded (Set target 1 next) → last ≡ second ++ encoded (Set target 0 next) →
    last ≡ old ++ bytes_of (assigned_rows target e (length old))
assigned_written old target e set next is-set is-next first second last one two three =
    let place = behind_value (length old) e in
    let rows = value_rows e (length old) set (set + 8) in
    let sets : ℕ → List Row = λ k. Set target 1 k ∷ Set target 0 k ∷ [] in
    three
    ∙ ap (λ l. l ++ encoded (Set target 0 next)) (two ∙ ap (λ l. l ++ encoded (Set target 1 next)) one)
    ∙ append_assoc (old ++ bytes_of rows) (encoded (Set target 1 next)) (encoded (Set target 0 next))
    ∙ append_assoc old (bytes_of rows) (bytes_of (sets next))
    ∙ ap (λ l. old ++ l) (sym (bytes-append rows (sets next)))
    ∙ ap (λ k. old ++ bytes_of (rows ++ sets k)) is-next
    ∙ ap (λ k. old ++ bytes_of (value_rows e (length old) k (k + 8) ++ sets (k + 16))) is-set

-- ---- how much longer the code is
pub pin_long : (target : ℕ) (default : Bool) (a : Actual) (code new : List ℕ) → new ≡ code ++ bytes_of (pin_rows target default a (length code)) → length new ≤ length code + 11 * count_at_pin a
pin_long target default a code new written =
    let rows = pin_rows target default a (length code) in
    omega (arith, ap length written ∙ length-append code (bytes_of rows), length-bytes rows, sizes_at_most rows, pin_are target default a (length code))

pub step_long : (net : Network) (a : Action) (code new : List ℕ) → IsCall net a → new ≡ code ++ bytes_of (step_rows net a (length code)) → length new ≤ length code + 11 * count_of_step net a
step_long net a code new call written =
    let rows = step_rows net a (length code) in
    omega (arith, ap length written ∙ length-append code (bytes_of rows), length-bytes rows, sizes_at_most rows, step_are net a (length code) call)
