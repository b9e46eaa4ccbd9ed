-- What the cells hold while code runs, and what one turn makes of it.
use Rattle.std.proofs.Common.{◌⊎◌, inl, inr, ◌≡◌, ◌≢◌, ℕ, suc, ◌+◌, ◌-◌, ◌^◌, ◌<◌, ◌≤◌, Bool, false, List, [], ◌∷◌, ◌++◌, length, drop, refl, sym, ap, ◌∙◌, subst, arith, length-append, length-drop, lit<, lit≤}
use Rattle.std.specs.Prelude.{slice_set, slice_index, slice_index_or, nat_lt, nat_eq, ◌&&◌, ◌||◌, bit_and, bit_or}
use Rattle.std.specs.Int.{w32, to_be_bytes}
use Rattle.std.proofs.lemmas.Grind.{common_steps}
use Rattle.std.proofs.Math.Dec.{eqb-suc-zero}
use Rattle.std.proofs.lemmas.List.{same_lists, get_or_default, get_or-drop}
use Rattle.std.proofs.lemmas.Bool.{lt-leb, cases_lt, cases_eq}
use Rattle.ps_machine.specs.Bytes.{bit}
use Rattle.ps_machine.proofs.Bits.{bit_is_bit, bit_and-bit, bit_or-bit}
use Rattle.ps_machine.proofs.Places.{length-replaced, index_after, be4_within}
use Rattle.ps_stackvm.specs.declared.layout.TheConstants.{SIGNALS_AT}
use Rattle.ps_stackvm.specs.declared.instruction.Instruction.{Instruction}
use Rattle.ps_stackvm.specs.declared.instruction.Instruction.TheVariants.{Load, Store, Const, And, Or}
use Rattle.ps_stackvm.specs.Cells.{pc_of, height_of, progress_of, scan_time, stack_byte, signal_byte, with_pc, with_height}
use Rattle.ps_stackvm.specs.Instructions.{size_of, fetched}
use Rattle.ps_stackvm.specs.Stack.{top, second, after_load, after_store, after_const, after_join, pushed}
use Rattle.ps_stackvm.specs.Turn.{after, carried_out, turn_of}
use Rattle.ps_stackgen.proofs.Instructions.{Has}

-- reads after the place of the next instruction was written
pub pc_of-with_pc : (pc : ℕ) (cells : List ℕ) → pc < 2 ^ 32 → pc_of (with_pc pc cells) ≡ pc
pc_of-with_pc pc cells h = be4_within cells 0 pc (omega arith) h

pub index-with_pc : (pc : ℕ) (cells : List ℕ) (k : ℕ) → 4 ≤ k → slice_index (with_pc pc cells) k ≡ slice_index cells k
index-with_pc pc cells k h = index_after cells 0 (to_be_bytes w32 pc) k h (omega arith)

pub length-with_pc : (pc : ℕ) (cells : List ℕ) → 4 ≤ length cells → length (with_pc pc cells) ≡ length cells
length-with_pc pc cells h = length-replaced cells 0 (to_be_bytes w32 pc) h

-- n signals; the cells are those of a running machine at pc with these truth values on the stack, the lowest first, and in the signals, the scan's time and the instances' bytes
pub record Holds (n : ℕ) (now : ℕ) (blocks : List ℕ) (cells : List ℕ) (pc : ℕ) (stack : List Bool) (v : ℕ → Bool) : Type 0 where
  pub sized : SIGNALS_AT + n ≤ length cells
  pub at : pc_of cells ≡ pc
  pub height : height_of cells ≡ length stack
  pub running : progress_of cells ≡ 0
  pub time : scan_time cells ≡ now
  pub holds : (k : ℕ) → k < length stack → stack_byte cells k ≡ bit (slice_index_or stack k false)
  pub signals : (s : ℕ) → s < n → signal_byte cells s ≡ bit (v s)
  pub rest : drop (SIGNALS_AT + n) cells ≡ blocks

pub drop_ext : (k : ℕ) (xs ys : List ℕ) → length xs ≡ length ys → ((j : ℕ) → k ≤ j → slice_index xs j ≡ slice_index ys j) → drop k xs ≡ drop k ys
drop_ext k xs ys size same =
    let lx = length-drop k xs in
    let ly = length-drop k ys in
    let l : length (drop k xs) ≡ length (drop k ys) = omega arith in
    same_lists (drop k xs) (drop k ys) l (λ j d low.
    let low' : j < length (drop k ys) = omega arith in
    let past : k ≤ k + j = omega arith in
    get_or_default (drop k xs) j d 0 low ∙ get_or-drop k xs j 0 ∙ same (k + j) past ∙ sym (get_or-drop k ys j 0) ∙ sym (get_or_default (drop k ys) j d 0 low'))

pub time_same : (cells new : List ℕ) → ((k : ℕ) → 6 ≤ k → k < 10 → slice_index new k ≡ slice_index cells k) → scan_time new ≡ scan_time cells
time_same cells new same =
    let h6 = same 6 (lit≤ tt) (lit< tt) in
    let h7 = same 7 (lit≤ tt) (lit< tt) in
    let h8 = same 8 (lit≤ tt) (lit< tt) in
    let h9 = same 9 (lit≤ tt) (lit< tt) in
    rw (h6, h7, h8, h9) refl

-- the elements of a list with one more at its end
last_or_before : (stack : List Bool) (b : Bool) (k : ℕ) → k < length (stack ++ b ∷ []) → ((k < length stack) × (slice_index_or (stack ++ b ∷ []) k false ≡ slice_index_or stack k false)) ⊎ ((k ≡ length stack) × (slice_index_or (stack ++ b ∷ []) k false ≡ b))
last_or_before stack b k l =
    elim (cases_lt k (length stack)) [ inl low ↦ inl (low, grind (arith, common_steps)) | inr high ↦ inr (grind (arith, common_steps), grind (arith, common_steps)) ]

-- a byte is pushed
push_holds : (n now : ℕ) (blocks cells : List ℕ) (pc next : ℕ) (stack : List Bool) (v : ℕ → Bool) (b : Bool) → Holds n now blocks cells pc stack v → next < 2 ^ 32 → length stack < 64 → Holds n now blocks (with_pc next (pushed (bit b) cells)) next (stack ++ b ∷ []) v
push_holds n now blocks cells pc next stack v b h small low =
    let p = pushed (bit b) cells in
    let size : SIGNALS_AT + n ≤ length cells = h.sized in
    let tall : height_of cells ≡ length stack = h.height in
    let e4 = index-with_pc next p 4 (omega arith) in
    let e5 = index-with_pc next p 5 (omega arith) in
    let e0 = length-with_pc next p (grind (arith, common_steps)) in
    let final = with_pc next p in
    let whole : length final ≡ length cells = e0 ∙ grind (arith, common_steps) in
    let header : (k : ℕ) → 6 ≤ k → k < 10 → slice_index final k ≡ slice_index cells k = λ k from to. index-with_pc next p k (omega arith) ∙ grind (arith, common_steps) in
    let tail : (k : ℕ) → SIGNALS_AT + n ≤ k → slice_index final k ≡ slice_index cells k = λ k from. index-with_pc next p k (omega arith) ∙ grind (arith, common_steps) in
    record {
      sized = omega arith;
      time = time_same cells final header ∙ h.time;
      rest = drop_ext (SIGNALS_AT + n) final cells whole tail ∙ h.rest;
      at = pc_of-with_pc next p small;
      height = grind (arith, common_steps);
      running = e5 ∙ grind (arith, common_steps, h.running);
      holds = λ k l. let e = index-with_pc next p (10 + k) (omega arith) in
          e ∙ elim (last_or_before stack b k l) [
            | inl low ↦ grind (arith, common_steps, h.holds k low.0, low.1)
            | inr last ↦ grind (arith, common_steps, last.1)
          ];
      signals = λ s l. let e = index-with_pc next p (SIGNALS_AT + s) (omega arith) in e ∙ grind (arith, common_steps, h.signals s l);
    }

-- the topmost byte leaves the stack, and is signal c from then on
store_holds : (n now : ℕ) (blocks cells : List ℕ) (pc next c : ℕ) (stack : List Bool) (v v' : ℕ → Bool) (b : Bool) → Holds n now blocks cells pc (stack ++ b ∷ []) v → next < 2 ^ 32 → length stack < 64 → c < n → v' c ≡ b → ((s : ℕ) → s ≢ c → v' s ≡ v s) → Holds n now blocks (with_pc next (slice_set (with_height (height_of cells - 1) cells) (SIGNALS_AT + c) (bit b))) next stack v'
store_holds n now blocks cells pc next c stack v v' b h small low within new same =
    let p = slice_set (with_height (height_of cells - 1) cells) (SIGNALS_AT + c) (bit b) in
    let size : SIGNALS_AT + n ≤ length cells = h.sized in
    let tall : height_of cells ≡ length stack + 1 = h.height ∙ length-append stack (b ∷ []) in
    let e4 = index-with_pc next p 4 (omega arith) in
    let e5 = index-with_pc next p 5 (omega arith) in
    let e0 = length-with_pc next p (grind (arith, common_steps)) in
    let final = with_pc next p in
    let whole : length final ≡ length cells = e0 ∙ grind (arith, common_steps) in
    let header : (k : ℕ) → 6 ≤ k → k < 10 → slice_index final k ≡ slice_index cells k = λ k from to. index-with_pc next p k (omega arith) ∙ grind (arith, common_steps) in
    let tail : (k : ℕ) → SIGNALS_AT + n ≤ k → slice_index final k ≡ slice_index cells k = λ k from. index-with_pc next p k (omega arith) ∙ grind (arith, common_steps) in
    record {
      sized = omega arith;
      time = time_same cells final header ∙ h.time;
      rest = drop_ext (SIGNALS_AT + n) final cells whole tail ∙ h.rest;
      at = pc_of-with_pc next p small;
      height = e4 ∙ grind (arith, common_steps);
      running = e5 ∙ grind (arith, common_steps, h.running);
      holds = λ k l. let e = index-with_pc next p (10 + k) (omega arith) in
          let was = h.holds k (omega (arith, length-append stack (b ∷ []))) in
          let kept : slice_index_or (stack ++ b ∷ []) k false ≡ slice_index_or stack k false = grind (arith, common_steps) in
          e ∙ grind (arith, common_steps, was, kept);
      signals = λ s l. let e = index-with_pc next p (SIGNALS_AT + s) (omega arith) in
          e ∙ elim (cases_eq s c) [
            | inl is ↦ grind (arith, common_steps, new)
            | inr other ↦ grind (arith, common_steps, h.signals s l, same s other)
          ];
    }

-- the two topmost bytes give way to one
join_holds : (n now : ℕ) (blocks cells : List ℕ) (pc next : ℕ) (stack : List Bool) (v : ℕ → Bool) (a b r : Bool) → Holds n now blocks cells pc ((stack ++ a ∷ []) ++ b ∷ []) v → next < 2 ^ 32 → length stack < 63 → Holds n now blocks (with_pc next (with_height (height_of cells - 1) (slice_set cells (10 + (height_of cells - 2)) (bit r)))) next (stack ++ r ∷ []) v
join_holds n now blocks cells pc next stack v a b r h small low =
    let p = with_height (height_of cells - 1) (slice_set cells (10 + (height_of cells - 2)) (bit r)) in
    let size : SIGNALS_AT + n ≤ length cells = h.sized in
    let len : length ((stack ++ a ∷ []) ++ b ∷ []) ≡ length stack + 2 = omega (arith, length-append (stack ++ a ∷ []) (b ∷ []), length-append stack (a ∷ [])) in
    let len' : length (stack ++ r ∷ []) ≡ length stack + 1 = length-append stack (r ∷ []) in
    let tall : height_of cells ≡ length stack + 2 = h.height ∙ len in
    let e4 = index-with_pc next p 4 (omega arith) in
    let e5 = index-with_pc next p 5 (omega arith) in
    let e0 = length-with_pc next p (grind (arith, common_steps)) in
    let final = with_pc next p in
    let whole : length final ≡ length cells = e0 ∙ grind (arith, common_steps) in
    let header : (k : ℕ) → 6 ≤ k → k < 10 → slice_index final k ≡ slice_index cells k = λ k from to. index-with_pc next p k (omega arith) ∙ grind (arith, common_steps) in
    let tail : (k : ℕ) → SIGNALS_AT + n ≤ k → slice_index final k ≡ slice_index cells k = λ k from. index-with_pc next p k (omega arith) ∙ grind (arith, common_steps) in
    record {
      sized = omega arith;
      time = time_same cells final header ∙ h.time;
      rest = drop_ext (SIGNALS_AT + n) final cells whole tail ∙ h.rest;
      at = pc_of-with_pc next p small;
      height = e4 ∙ grind (arith, common_steps);
      running = e5 ∙ grind (arith, common_steps, h.running);
      holds = λ k l. let e = index-with_pc next p (10 + k) (omega arith) in
          let was = h.holds k (omega arith) in
          e ∙ elim (last_or_before stack r k l) [
            | inl below ↦
                let k1 : slice_index_or ((stack ++ a ∷ []) ++ b ∷ []) k false ≡ slice_index_or stack k false = grind (arith, common_steps, below.0) in
                grind (arith, common_steps, was, k1, below.1, below.0)
            | inr last ↦ grind (arith, common_steps, last.1, last.0)
          ];
      signals = λ s l. let e = index-with_pc next p (SIGNALS_AT + s) (omega arith) in e ∙ grind (arith, common_steps, h.signals s l);
    }

-- no trap comes where nothing is wrong
load_goes : (n c next : ℕ) (cells : List ℕ) (b : Bool) → c < n → height_of cells < 64 → signal_byte cells c ≡ bit b → after_load n c next cells ≡ with_pc next (pushed (bit b) cells)
load_goes n c next cells b within low is =
    let e1 = lt-leb n c within in
    let e2 = lt-leb 64 (height_of cells) low in
    rw (e1, e2, is, bit_is_bit b) refl

store_goes : (n c next h : ℕ) (cells : List ℕ) (b : Bool) → c < n → height_of cells ≡ suc h → h < 64 → top cells ≡ bit b → after_store n c next cells ≡ with_pc next (slice_set (with_height (height_of cells - 1) cells) (SIGNALS_AT + c) (bit b))
store_goes n c next h cells b within tall low is =
    let e1 = lt-leb n c within in
    let e2 : nat_lt 64 (height_of cells) ≡ false = lt-leb 65 (height_of cells) (omega arith) in
    let e3 : nat_eq (height_of cells) 0 ≡ false = rw tall (eqb-suc-zero h) in
    rw (e1, e3, e2, is, bit_is_bit b) refl

and_goes : (next : ℕ) (cells : List ℕ) (a b : Bool) → 2 ≤ height_of cells → height_of cells ≤ 64 → top cells ≡ bit b → second cells ≡ bit a → after_join bit_and next cells ≡ with_pc next (with_height (height_of cells - 1) (slice_set cells (10 + (height_of cells - 2)) (bit (a && b))))
and_goes next cells a b tall low is was =
    let e1 : nat_lt (height_of cells) 2 ≡ false = lt-leb (suc (height_of cells)) 2 (omega arith) in
    let e2 : nat_lt 64 (height_of cells) ≡ false = lt-leb 65 (height_of cells) (omega arith) in
    rw (e1, e2, is, was, bit_is_bit b, bit_is_bit a, bit_and-bit a b) refl

or_goes : (next : ℕ) (cells : List ℕ) (a b : Bool) → 2 ≤ height_of cells → height_of cells ≤ 64 → top cells ≡ bit b → second cells ≡ bit a → after_join bit_or next cells ≡ with_pc next (with_height (height_of cells - 1) (slice_set cells (10 + (height_of cells - 2)) (bit (a || b))))
or_goes next cells a b tall low is was =
    let e1 : nat_lt (height_of cells) 2 ≡ false = lt-leb (suc (height_of cells)) 2 (omega arith) in
    let e2 : nat_lt 64 (height_of cells) ≡ false = lt-leb 65 (height_of cells) (omega arith) in
    rw (e1, e2, is, was, bit_is_bit b, bit_is_bit a, bit_or-bit a b) refl

const_goes : (next : ℕ) (cells : List ℕ) (b : Bool) → height_of cells < 64 → after_const (bit b) next cells ≡ with_pc next (pushed (bit b) cells)
const_goes next cells b low =
    let e2 = lt-leb 64 (height_of cells) low in
    rw (e2, bit_is_bit b) refl

pub turn_is : (n m : ℕ) (code cells : List ℕ) (pc : ℕ) (i : Instruction) → pc_of cells ≡ pc → Has code pc i → turn_of n m code cells ≡ after n m i (pc + size_of i) cells
turn_is n m code cells pc i at has =
    ap (λ p. carried_out n m (fetched code p) cells) at
    ∙ ap (λ r. carried_out n m r cells) has.found
    ∙ ap (λ p. after n m i (p + size_of i) cells) at

pub record TwoOnTop (cells : List ℕ) (a b : Bool) : Type 0 where
  pub tall : 2 ≤ height_of cells
  pub low : height_of cells ≤ 64
  pub last : top cells ≡ bit b
  pub before : second cells ≡ bit a

-- the instruction joins the two topmost values by f
abbrev pub Joins : (n m : ℕ) → ℕ → List ℕ → List ℕ → Instruction → (Bool → Bool → Bool) → Type 0
Joins n m now blocks code i f = (cells : List ℕ) (pc : ℕ) (stack : List Bool) (v : ℕ → Bool) (a b : Bool) → Has code pc i → Holds n now blocks cells pc ((stack ++ a ∷ []) ++ b ∷ []) v → length stack < 63 → Holds n now blocks (turn_of n m code cells) (pc + size_of i) (stack ++ f a b ∷ []) v

module _ (n m : ℕ) (now : ℕ) (blocks code : List ℕ) where
  -- one turn at each instruction
  pub load_turn : (cells : List ℕ) (pc c : ℕ) (stack : List Bool) (v : ℕ → Bool) → Has code pc (Load c) → Holds n now blocks cells pc stack v → length stack < 64 → c < n → Holds n now blocks (turn_of n m code cells) (pc + 3) (stack ++ v c ∷ []) v
  load_turn cells pc c stack v has h low within =
      let tall : height_of cells < 64 = omega (arith, h.height) in
      let e = turn_is n m code cells pc (Load c) h.at has ∙ load_goes n c (pc + 3) cells (v c) within tall (h.signals c within) in
      subst (λ x. Holds n now blocks x (pc + 3) (stack ++ v c ∷ []) v) (sym e) (push_holds n now blocks cells pc (pc + 3) stack v (v c) h has.small low)

  pub const_turn : (cells : List ℕ) (pc : ℕ) (b : Bool) (stack : List Bool) (v : ℕ → Bool) → Has code pc (Const (bit b)) → Holds n now blocks cells pc stack v → length stack < 64 → Holds n now blocks (turn_of n m code cells) (pc + 2) (stack ++ b ∷ []) v
  const_turn cells pc b stack v has h low =
      let tall : height_of cells < 64 = omega (arith, h.height) in
      let e = turn_is n m code cells pc (Const (bit b)) h.at has ∙ const_goes (pc + 2) cells b tall in
      subst (λ x. Holds n now blocks x (pc + 2) (stack ++ b ∷ []) v) (sym e) (push_holds n now blocks cells pc (pc + 2) stack v b h has.small low)

  pub store_turn : (cells : List ℕ) (pc c : ℕ) (stack : List Bool) (v v' : ℕ → Bool) (b : Bool) → Has code pc (Store c) → Holds n now blocks cells pc (stack ++ b ∷ []) v → length stack < 64 → c < n → v' c ≡ b → ((s : ℕ) → s ≢ c → v' s ≡ v s) → Holds n now blocks (turn_of n m code cells) (pc + 3) stack v'
  store_turn cells pc c stack v v' b has h low within new same =
      let tall : height_of cells ≡ suc (length stack) = omega (arith, h.height, length-append stack (b ∷ [])) in
      let place : height_of cells - 1 ≡ length stack = omega arith in
      let last : slice_index_or (stack ++ b ∷ []) (length stack) false ≡ b = grind (arith, common_steps) in
      let is : top cells ≡ bit b = ap (λ k. stack_byte cells k) place ∙ h.holds (length stack) (omega (arith, length-append stack (b ∷ []))) ∙ ap bit last in
      let e = turn_is n m code cells pc (Store c) h.at has ∙ store_goes n c (pc + 3) (length stack) cells b within tall low is in
      subst (λ x. Holds n now blocks x (pc + 3) stack v') (sym e) (store_holds n now blocks cells pc (pc + 3) c stack v v' b h has.small low within new same)

  pub two_on_top : (cells : List ℕ) (pc : ℕ) (stack : List Bool) (v : ℕ → Bool) (a b : Bool) → Holds n now blocks cells pc ((stack ++ a ∷ []) ++ b ∷ []) v → length stack < 63 → TwoOnTop cells a b
  two_on_top cells pc stack v a b h low =
      let len : length ((stack ++ a ∷ []) ++ b ∷ []) ≡ length stack + 2 = omega (arith, length-append (stack ++ a ∷ []) (b ∷ []), length-append stack (a ∷ [])) in
      let tall : height_of cells ≡ length stack + 2 = h.height ∙ len in
      let k1 : height_of cells - 1 ≡ length stack + 1 = omega arith in
      let k2 : height_of cells - 2 ≡ length stack = omega arith in
      let x1 : slice_index_or ((stack ++ a ∷ []) ++ b ∷ []) (length stack + 1) false ≡ b = grind (arith, common_steps) in
      let x2 : slice_index_or ((stack ++ a ∷ []) ++ b ∷ []) (length stack) false ≡ a = grind (arith, common_steps) in
      record {
        tall = omega arith;
        low = omega arith;
        last = ap (λ k. stack_byte cells k) k1 ∙ h.holds (length stack + 1) (omega arith) ∙ ap bit x1;
        before = ap (λ k. stack_byte cells k) k2 ∙ h.holds (length stack) (omega arith) ∙ ap bit x2;
      }

  pub and_joins : Joins n m now blocks code And (λ a b. a && b)
  and_joins cells pc stack v a b has h low =
      let t = two_on_top cells pc stack v a b h low in
      let e = turn_is n m code cells pc And h.at has ∙ and_goes (pc + 1) cells a b t.tall t.low t.last t.before in
      subst (λ x. Holds n now blocks x (pc + 1) (stack ++ (a && b) ∷ []) v) (sym e) (join_holds n now blocks cells pc (pc + 1) stack v a b (a && b) h has.small low)

  pub or_joins : Joins n m now blocks code Or (λ a b. a || b)
  or_joins cells pc stack v a b has h low =
      let t = two_on_top cells pc stack v a b h low in
      let e = turn_is n m code cells pc Or h.at has ∙ or_goes (pc + 1) cells a b t.tall t.low t.last t.before in
      subst (λ x. Holds n now blocks x (pc + 1) (stack ++ (a || b) ∷ []) v) (sym e) (join_holds n now blocks cells pc (pc + 1) stack v a b (a || b) h has.small low)
