-- Cells with another head: what is read from them, and what instructions leave of them.
use Rattle.std.proofs.Common.{◌≡◌, ◌≢◌, ℕ, suc, ◌+◌, ◌-◌, ◌^◌, ◌<◌, ◌≤◌, true, false, List, [], ◌∷◌, length, refl, sym, ap, ◌∙◌, inl, inr, arith}
use Rattle.std.specs.Prelude.{slice_set, slice_index, nat_le, nat_lt, ◌==◌, ◌||◌, Ok, Err}
use Rattle.std.proofs.lemmas.Bool.{cond-true, cond-false, lt-leb, le-leb, lt-ltb, le-ltb, eq-eqb, ne_eqb, or_left, or_right, or_from, cases_lt, true≢false}
use Rattle.ps_model.specs.declared.channel.Progress.TheVariants.{Running}
use Rattle.ps_machine.specs.Machines.{turned}
use Rattle.ps_machine.specs.Progressing.{progress_said, is_running}
use Rattle.ps_machine.proofs.Places.{be4_within}
use Rattle.ps_machine.proofs.Phases.{turned_next}
use Rattle.ps_machine.proofs.Progressing.{other_ends, running_next}
use Rattle.ps_stackvm.specs.declared.layout.TheConstants.{SIGNALS_AT}
use Rattle.ps_stackvm.specs.declared.trap.Trap.{Trap}
use Rattle.ps_stackvm.specs.declared.trap.Trap.TheVariants.{StackHeight, NotBoolean}
use Rattle.ps_stackvm.specs.declared.instruction.Instruction.{Instruction}
use Rattle.ps_stackvm.specs.Cells.{with_pc, with_height, with_head, pc_of, height_of, progress_of, signal_byte, stack_byte, trapped}
use Rattle.ps_stackvm.specs.Instructions.{size_of, fetched}
use Rattle.ps_stackvm.specs.Stack.{after_load, after_store, after_const, after_join, after_end}
use Rattle.ps_stackvm.specs.Turn.{after, carried_out, turn_of}

pub other_pc : (pc h next : ℕ) (c : List ℕ) → with_pc next (with_head pc h c) ≡ with_head next h c
other_pc pc h next [] = refl
other_pc pc h next (a ∷ []) = refl
other_pc pc h next (a ∷ b ∷ []) = refl
other_pc pc h next (a ∷ b ∷ d ∷ []) = refl
other_pc pc h next (a ∷ b ∷ d ∷ e ∷ t) = refl

pub other_height : (pc h k : ℕ) (c : List ℕ) → with_height k (with_head pc h c) ≡ with_head pc k c
other_height pc h k [] = refl
other_height pc h k (a ∷ []) = refl
other_height pc h k (a ∷ b ∷ []) = refl
other_height pc h k (a ∷ b ∷ d ∷ []) = refl
other_height pc h k (a ∷ b ∷ d ∷ e ∷ []) = refl
other_height pc h k (a ∷ b ∷ d ∷ e ∷ f ∷ t) = refl

pub height_is : (pc h : ℕ) (c : List ℕ) → SIGNALS_AT ≤ length c → height_of (with_head pc h c) ≡ h
height_is pc h [] room = absurd (omega arith)
height_is pc h (a ∷ []) room = absurd (omega arith)
height_is pc h (a ∷ b ∷ []) room = absurd (omega arith)
height_is pc h (a ∷ b ∷ d ∷ []) room = absurd (omega arith)
height_is pc h (a ∷ b ∷ d ∷ e ∷ []) room = absurd (omega arith)
height_is pc h (a ∷ b ∷ d ∷ e ∷ f ∷ t) room = refl

pub pc_is : (pc h : ℕ) (c : List ℕ) → pc < 2 ^ 32 → pc_of (with_head pc h c) ≡ pc
pc_is pc h c fits = be4_within (with_height h c) 0 pc (omega arith) fits

pub read_behind : (pc h : ℕ) (c : List ℕ) (i : ℕ) → 5 ≤ i → SIGNALS_AT ≤ length c → slice_index (with_head pc h c) i ≡ slice_index c i
read_behind pc h [] i low room = absurd (omega arith)
read_behind pc h (a ∷ []) i low room = absurd (omega arith)
read_behind pc h (a ∷ b ∷ []) i low room = absurd (omega arith)
read_behind pc h (a ∷ b ∷ d ∷ []) i low room = absurd (omega arith)
read_behind pc h (a ∷ b ∷ d ∷ e ∷ []) i low room = absurd (omega arith)
read_behind pc h (a ∷ b ∷ d ∷ e ∷ f ∷ t) i low room =
    let c : List ℕ = a ∷ b ∷ d ∷ e ∷ f ∷ t in
    let n : i ≡ suc (suc (suc (suc (suc (i - 5))))) = omega arith in
    ap (slice_index (with_head pc h c)) n ∙ sym (ap (slice_index c) n)

pub write_behind : (pc h : ℕ) (c : List ℕ) (i v : ℕ) → 5 ≤ i → SIGNALS_AT ≤ length c → slice_set (with_head pc h c) i v ≡ with_head pc h (slice_set c i v)
write_behind pc h [] i v low room = absurd (omega arith)
write_behind pc h (a ∷ []) i v low room = absurd (omega arith)
write_behind pc h (a ∷ b ∷ []) i v low room = absurd (omega arith)
write_behind pc h (a ∷ b ∷ d ∷ []) i v low room = absurd (omega arith)
write_behind pc h (a ∷ b ∷ d ∷ e ∷ []) i v low room = absurd (omega arith)
write_behind pc h (a ∷ b ∷ d ∷ e ∷ f ∷ t) i v low room =
    let c : List ℕ = a ∷ b ∷ d ∷ e ∷ f ∷ t in
    let n : i ≡ suc (suc (suc (suc (suc (i - 5))))) = omega arith in
    ap (λ k. slice_set (with_head pc h c) k v) n ∙ sym (ap (λ k. with_head pc h (slice_set c k v)) n)

-- ---- What each instruction leaves, by the cells with the old head.

module _ (pc h : ℕ) (c : List ℕ) (room : SIGNALS_AT ≤ length c) where
  pub trapped_is : (trap : Trap) → trapped trap (with_head pc h c) ≡ with_head pc h (trapped trap c)
  trapped_is trap = write_behind pc h c 5 _ (omega arith) room

  stack_is : (k : ℕ) → stack_byte (with_head pc h c) k ≡ stack_byte c k
  stack_is k = read_behind pc h c (10 + k) (omega arith) room

  top_is : stack_byte (with_head pc h c) (height_of (with_head pc h c) - 1) ≡ stack_byte c (h - 1)
  top_is = ap (λ k. stack_byte (with_head pc h c) (k - 1)) (height_is pc h c room) ∙ stack_is (h - 1)

  second_is : stack_byte (with_head pc h c) (height_of (with_head pc h c) - 2) ≡ stack_byte c (h - 2)
  second_is = ap (λ k. stack_byte (with_head pc h c) (k - 2)) (height_is pc h c room) ∙ stack_is (h - 2)

  -- a byte on the stack
  pushed_is : (next b : ℕ) → with_pc next (with_height (h + 1) (slice_set (with_head pc h c) (10 + h) b)) ≡ with_head next (h + 1) (slice_set c (10 + h) b)
  pushed_is next b =
      ap (λ l. with_pc next (with_height (h + 1) l)) (write_behind pc h c (10 + h) b (omega arith) room)
      ∙ ap (with_pc next) (other_height pc h (h + 1) (slice_set c (10 + h) b))
      ∙ other_pc pc (h + 1) next (slice_set c (10 + h) b)

  -- a byte taken from the stack
  popped_is : (next i b : ℕ) → 5 ≤ i → with_pc next (slice_set (with_height (h - 1) (with_head pc h c)) i b) ≡ with_head next (h - 1) (slice_set c i b)
  popped_is next i b low =
      ap (λ l. with_pc next (slice_set l i b)) (other_height pc h (h - 1) c)
      ∙ ap (with_pc next) (write_behind pc (h - 1) c i b low room)
      ∙ other_pc pc (h - 1) next (slice_set c i b)

  -- two bytes joined
  joined_is : (next i b : ℕ) → 5 ≤ i → with_pc next (with_height (h - 1) (slice_set (with_head pc h c) i b)) ≡ with_head next (h - 1) (slice_set c i b)
  joined_is next i b low =
      ap (λ l. with_pc next (with_height (h - 1) l)) (write_behind pc h c i b low room)
      ∙ ap (with_pc next) (other_height pc h (h - 1) (slice_set c i b))
      ∙ other_pc pc (h - 1) next (slice_set c i b)

  not_full : h < 64 → nat_le 64 (height_of (with_head pc h c)) ≡ false
  not_full low = ap (nat_le 64) (height_is pc h c room) ∙ lt-leb 64 h low

  full : 64 ≤ h → nat_le 64 (height_of (with_head pc h c)) ≡ true
  full high = ap (nat_le 64) (height_is pc h c room) ∙ le-leb 64 h high

  module _ (signals s next : ℕ) (there : s < signals) where
    byte_is : signal_byte (with_head pc h c) s ≡ signal_byte c s
    byte_is = read_behind pc h c (SIGNALS_AT + s) (omega arith) room

    pub load_full : 64 ≤ h → trapped StackHeight (with_head pc h c) ≡ after_load signals s next (with_head pc h c)
    load_full high = sym (cond-false _ _ _ (lt-leb signals s there) ∙ cond-true _ _ _ (full high))

    pub load_odd : h < 64 → 1 < signal_byte c s → trapped NotBoolean (with_head pc h c) ≡ after_load signals s next (with_head pc h c)
    load_odd low odd =
        sym (cond-false _ _ _ (lt-leb signals s there)
        ∙ cond-false _ _ _ (not_full low)
        ∙ cond-true _ _ _ (ap (nat_lt 1) byte_is ∙ lt-ltb 1 (signal_byte c s) odd))

    pub load_done : h < 64 → signal_byte c s ≤ 1 →
        with_head next (h + 1) (slice_set c (10 + h) (signal_byte c s)) ≡ after_load signals s next (with_head pc h c)
    load_done low bit =
        let height = height_is pc h c room in
        sym (cond-false _ _ _ (lt-leb signals s there)
        ∙ cond-false _ _ _ (not_full low)
        ∙ cond-false _ _ _ (ap (nat_lt 1) byte_is ∙ le-ltb 1 (signal_byte c s) bit)
        ∙ (λ x. with_pc next (with_height (height x + 1) (slice_set (with_head pc h c) (10 + height x) (byte_is x))))
        ∙ pushed_is next (signal_byte c s))

  module _ (byte next : ℕ) where
    pub const_full : 64 ≤ h → trapped StackHeight (with_head pc h c) ≡ after_const byte next (with_head pc h c)
    const_full high = sym (cond-true _ _ _ (full high))

    pub const_odd : h < 64 → 1 < byte → trapped NotBoolean (with_head pc h c) ≡ after_const byte next (with_head pc h c)
    const_odd low odd = sym (cond-false _ _ _ (not_full low) ∙ cond-true _ _ _ (lt-ltb 1 byte odd))

    pub const_done : h < 64 → byte ≤ 1 → with_head next (h + 1) (slice_set c (10 + h) byte) ≡ after_const byte next (with_head pc h c)
    const_done low bit =
        let height = height_is pc h c room in
        sym (cond-false _ _ _ (not_full low)
        ∙ cond-false _ _ _ (le-ltb 1 byte bit)
        ∙ (λ x. with_pc next (with_height (height x + 1) (slice_set (with_head pc h c) (10 + height x) byte)))
        ∙ pushed_is next byte)

  module _ (signals s next : ℕ) (there : s < signals) where
    pub store_empty : h ≡ 0 → trapped StackHeight (with_head pc h c) ≡ after_store signals s next (with_head pc h c)
    store_empty none =
        sym (cond-false _ _ _ (lt-leb signals s there)
        ∙ cond-true _ _ _ (or_left _ _ (ap (λ k. k == 0) (height_is pc h c room) ∙ eq-eqb h 0 none)))

    pub store_high : 64 < h → trapped StackHeight (with_head pc h c) ≡ after_store signals s next (with_head pc h c)
    store_high high =
        sym (cond-false _ _ _ (lt-leb signals s there)
        ∙ cond-true _ _ _ (or_right _ _ (ap (nat_lt 64) (height_is pc h c room) ∙ lt-ltb 64 h high)))

    fits : (h ≡ 0 → ⊥) → h ≤ 64 → ((height_of (with_head pc h c) == 0) || nat_lt 64 (height_of (with_head pc h c))) ≡ false
    fits some low =
        or_from _ _ (ap (λ k. k == 0) (height_is pc h c room) ∙ ne_eqb h 0 some)
        (ap (nat_lt 64) (height_is pc h c room) ∙ le-ltb 64 h low)

    pub store_odd : (h ≡ 0 → ⊥) → h ≤ 64 → 1 < stack_byte c (h - 1) →
        trapped NotBoolean (with_head pc h c) ≡ after_store signals s next (with_head pc h c)
    store_odd some low odd =
        sym (cond-false _ _ _ (lt-leb signals s there)
        ∙ cond-false _ _ _ (fits some low)
        ∙ cond-true _ _ _ (ap (nat_lt 1) top_is ∙ lt-ltb 1 (stack_byte c (h - 1)) odd))

    pub store_done : (h ≡ 0 → ⊥) → h ≤ 64 → stack_byte c (h - 1) ≤ 1 →
        with_head next (h - 1) (slice_set c (SIGNALS_AT + s) (stack_byte c (h - 1))) ≡ after_store signals s next (with_head pc h c)
    store_done some low bit =
        let height = height_is pc h c room in
        sym (cond-false _ _ _ (lt-leb signals s there)
        ∙ cond-false _ _ _ (fits some low)
        ∙ cond-false _ _ _ (ap (nat_lt 1) top_is ∙ le-ltb 1 (stack_byte c (h - 1)) bit)
        ∙ (λ x. with_pc next (slice_set (with_height (height x - 1) (with_head pc h c)) (SIGNALS_AT + s) (top_is x)))
        ∙ popped_is next (SIGNALS_AT + s) (stack_byte c (h - 1)) (omega arith))

  module _ (join : ℕ → ℕ → ℕ) (next : ℕ) where
    pub join_low : h < 2 → trapped StackHeight (with_head pc h c) ≡ after_join join next (with_head pc h c)
    join_low low = sym (cond-true _ _ _ (or_left _ _ (ap (λ k. nat_lt k 2) (height_is pc h c room) ∙ lt-ltb h 2 low)))

    pub join_high : 64 < h → trapped StackHeight (with_head pc h c) ≡ after_join join next (with_head pc h c)
    join_high high = sym (cond-true _ _ _ (or_right _ _ (ap (nat_lt 64) (height_is pc h c room) ∙ lt-ltb 64 h high)))

    two : 2 ≤ h → h ≤ 64 → (nat_lt (height_of (with_head pc h c)) 2 || nat_lt 64 (height_of (with_head pc h c))) ≡ false
    two some low =
        or_from _ _ (ap (λ k. nat_lt k 2) (height_is pc h c room) ∙ le-ltb h 2 some)
        (ap (nat_lt 64) (height_is pc h c room) ∙ le-ltb 64 h low)

    pub join_odd_top : 2 ≤ h → h ≤ 64 → 1 < stack_byte c (h - 1) → trapped NotBoolean (with_head pc h c) ≡ after_join join next (with_head pc h c)
    join_odd_top some low odd =
        sym (cond-false _ _ _ (two some low)
        ∙ cond-true _ _ _ (or_left _ _ (ap (nat_lt 1) top_is ∙ lt-ltb 1 (stack_byte c (h - 1)) odd)))

    pub join_odd_second : 2 ≤ h → h ≤ 64 → 1 < stack_byte c (h - 2) → trapped NotBoolean (with_head pc h c) ≡ after_join join next (with_head pc h c)
    join_odd_second some low odd =
        sym (cond-false _ _ _ (two some low)
        ∙ cond-true _ _ _ (or_right _ _ (ap (nat_lt 1) second_is ∙ lt-ltb 1 (stack_byte c (h - 2)) odd)))

    pub join_done : 2 ≤ h → h ≤ 64 → stack_byte c (h - 1) ≤ 1 → stack_byte c (h - 2) ≤ 1 →
        with_head next (h - 1) (slice_set c (10 + (h - 2)) (join (stack_byte c (h - 2)) (stack_byte c (h - 1)))) ≡ after_join join next (with_head pc h c)
    join_done some low top-bit second-bit =
        let height = height_is pc h c room in
        sym (cond-false _ _ _ (two some low)
        ∙ cond-false _ _ _ (or_from _ _ (ap (nat_lt 1) top_is ∙ le-ltb 1 (stack_byte c (h - 1)) top-bit)
        (ap (nat_lt 1) second_is ∙ le-ltb 1 (stack_byte c (h - 2)) second-bit))
        ∙ (λ x. with_pc next (with_height (height x - 1) (slice_set (with_head pc h c) (10 + (height x - 2)) (join (second_is x) (top_is x)))))
        ∙ joined_is next (10 + (h - 2)) (join (stack_byte c (h - 2)) (stack_byte c (h - 1))) (omega arith))

  pub end_done : (next : ℕ) → with_head next h (slice_set c 5 1) ≡ after_end next (with_head pc h c)
  end_done next = sym (ap (with_pc next) (write_behind pc h c 5 1 (omega arith) room) ∙ other_pc pc h next (slice_set c 5 1))

  pub same_progress : progress_of (with_head pc h c) ≡ progress_of c
  same_progress = read_behind pc h c 5 (omega arith) room

-- ---- A turn, by what is fetched at the place that the head names.

module _ (signals instances pc h : ℕ) (code c : List ℕ) (fits : pc < 2 ^ 32) where
  pub turn_made : (i : Instruction) → fetched code pc ≡ Ok i →
      after signals instances i (pc + size_of i) (with_head pc h c) ≡ turn_of signals instances code (with_head pc h c)
  turn_made i ok =
      let place = pc_is pc h c fits in
      (λ x. after signals instances i (sym place x + size_of i) (with_head pc h c))
      ∙ ap (λ r. carried_out signals instances r (with_head pc h c)) (sym ok ∙ ap (fetched code) (sym place))

  pub turn_stopped : (trap : Trap) → fetched code pc ≡ Err trap → trapped trap (with_head pc h c) ≡ turn_of signals instances code (with_head pc h c)
  turn_stopped trap err =
      ap (λ r. carried_out signals instances r (with_head pc h c)) (sym err ∙ ap (fetched code) (sym (pc_is pc h c fits)))

-- ---- One turn more, after k turns of a running scan.

module _ (f : List ℕ → List ℕ) (k k' pc h : ℕ) (c old : List ℕ) (next : k' ≡ k + 1) (made : with_head pc h c ≡ turned f k old) where
  pub turned_more : (after : List ℕ) → after ≡ f (with_head pc h c) → after ≡ turned f k' old
  turned_more after is =
      let suc_is : suc k ≡ k' = omega (arith, next) in
      is ∙ ap f made ∙ sym (turned_next f k old) ∙ ap (λ j. turned f j old) suc_is

  pub running_more : SIGNALS_AT ≤ length c → progress_of c ≡ 0 → ((j : ℕ) → j < k → progress_of (turned f j old) ≡ 0) →
      (j : ℕ) → j < k' → progress_of (turned f j old) ≡ 0
  running_more room here before j lt =
      running_next f progress_of old k before (ap progress_of (sym made) ∙ same_progress pc h c room ∙ here) j (omega (arith, lt, next))

-- ---- One turn of a scan that is Running, as a run of at most one.

pub made_one : (f : List ℕ → List ℕ) (made : ℕ) (old new : List ℕ) → new ≡ turned f made old → made ≤ 1 → (made < 1 → progress_of new ≢ 0) →
    progress_said (progress_of old) ≡ Running → new ≡ f old
made_one f made old new is most stopped runs = elim (cases_lt made 1) [
  | inl none ↦
      let zero : made ≡ 0 = omega arith in
      let same : new ≡ old = is ∙ ap (λ k. turned f k old) zero in
      absurd (true≢false (sym (ap is_running (ap (λ l. progress_said (progress_of l)) same ∙ runs)) ∙ other_ends (progress_of new) (stopped none)))
  | inr some ↦
      let one : made ≡ 1 = omega arith in
      is ∙ ap (λ k. turned f k old) one
]
