-- The machine follows the code of an expression, and that of the pins of a call.
use Rattle.std.proofs.Common.{inl, inr, ◌≡◌, ℕ, zero, suc, ◌+◌, ◌-◌, ◌<◌, Bool, true, false, List, [], ◌∷◌, ◌++◌, length, map, refl, sym, ap, ◌∙◌, subst, arith, append_assoc, append-nil, length-append}
use Rattle.std.specs.Prelude.{slice_index_or, ◌&&◌, ◌||◌}
use Rattle.std.specs.List.{flat_map, range_with_len}
use Rattle.std.proofs.lemmas.Bool.{cases_lt}
use Rattle.ps_model.specs.declared.kind.Kind.{Kind}
use Rattle.ps_model.specs.Formula.{Formula, Formulas, signal, all_of, any_of, no_operand, operand, value, all_true, any_true}
use Rattle.ps_model.specs.Action.{Actual, free, literal, time, wired}
use Rattle.ps_model.specs.Scanning.{pin_at, pin_value, pins_under}
use Rattle.ps_model.specs.Values.{operand_count}
use Rattle.ps_machine.specs.Bytes.{bit}
use Rattle.ps_machine.specs.Machines.{turned}
use Rattle.ps_machine.proofs.Fine.{IsFine, AreFine, IsFinePin, first_fine, later_fine}
use Rattle.ps_machine.proofs.Phases.{turned_add}
use Rattle.ps_stackvm.specs.declared.instruction.Instruction.{Instruction}
use Rattle.ps_stackvm.specs.declared.instruction.Instruction.TheVariants.{Const, And, Or}
use Rattle.ps_stackvm.specs.Cells.{progress_of}
use Rattle.ps_stackvm.specs.Instructions.{size_of}
use Rattle.ps_stackvm.specs.Code.{expression_code, group_code, later_code, pin_code, code_at_pin}
use Rattle.ps_stackvm.specs.Turn.{turn_of}
use Rattle.ps_stackgen.proofs.Instructions.{HasAt, has_front, has_back, size_all, size_all-append}
use Rattle.ps_stackgen.proofs.Holding.{Holds, Joins, load_turn, const_turn, and_joins, or_joins}

module _ (n m now : ℕ) (code : List ℕ) where
  -- after so many turns, all of them of a running machine, the cells hold this
  pub record Comes (blocks cells : List ℕ) (turns pc : ℕ) (stack : List Bool) (v : ℕ → Bool) : Type 0 where
    pub there : Holds n now blocks (turned (turn_of n m code) turns cells) pc stack v
    pub running : (j : ℕ) → j < turns → progress_of (turned (turn_of n m code) j cells) ≡ 0

  pub stays : (blocks cells : List ℕ) (pc : ℕ) (stack : List Bool) (v : ℕ → Bool) → Holds n now blocks cells pc stack v → Comes blocks cells 0 pc stack v
  stays blocks cells pc stack v h = record { there = h; running = λ j l. absurd (omega arith) }

  pub one_turn : (blocks blocks' cells : List ℕ) (pc pc' : ℕ) (stack stack' : List Bool) (v v' : ℕ → Bool) → Holds n now blocks cells pc stack v →
      Holds n now blocks' (turn_of n m code cells) pc' stack' v' → Comes blocks' cells 1 pc' stack' v'
  one_turn blocks blocks' cells pc pc' stack stack' v v' h g =
      record { there = g; running = λ j l. let e : j ≡ 0 = omega arith in rw e h.running }

  pub comes_on : (blocks blocks' cells : List ℕ) (j k pc pc' : ℕ) (stack stack' : List Bool) (v v' : ℕ → Bool) → Comes blocks cells j pc stack v →
      Comes blocks' (turned (turn_of n m code) j cells) k pc' stack' v' → Comes blocks' cells (j + k) pc' stack' v'
  comes_on blocks blocks' cells j k pc pc' stack stack' v v' a b =
      record {
        there = rw (turned_add (turn_of n m code) j k cells) b.there;
        running = λ i l. elim (cases_lt i j) [
          | inl early ↦ a.running i early
          | inr late ↦
              let e : i ≡ j + (i - j) = omega arith in
              let h : i - j < k = omega arith in
              let r = b.running (i - j) h in
              ap (λ x. progress_of (turned (turn_of n m code) x cells)) e ∙ ap progress_of (turned_add (turn_of n m code) j (i - j) cells) ∙ r
        ];
      }

  -- the same number of turns, place and stack, said otherwise
  pub comes_as : (blocks cells : List ℕ) (j k pc pc' : ℕ) (stack stack' : List Bool) (v : ℕ → Bool) → j ≡ k → pc ≡ pc' → stack ≡ stack' →
      Comes blocks cells j pc stack v → Comes blocks cells k pc' stack' v
  comes_as blocks cells j k pc pc' stack stack' v ej ep es a =
      subst (λ x. Comes blocks cells x pc' stack' v) ej (subst (λ x. Comes blocks cells j x stack' v) ep (subst (λ x. Comes blocks cells j pc x v) es a))

-- the operands joined to a one after another
abbrev folded : (Bool → Bool → Bool) → Bool → (ℕ → Bool) → Formulas → Bool
folded f a v no_operand = a
folded f a v (operand e es) = folded f (f a (value v e)) v es

fold_is_all : (a : Bool) (v : ℕ → Bool) (es : Formulas) → folded (λ x y. x && y) a v es ≡ (a && all_true v es)
fold_is_all true v no_operand = refl
fold_is_all false v no_operand = refl
fold_is_all true v (operand e es) = fold_is_all (value v e) v es
fold_is_all false v (operand e es) = fold_is_all false v es

fold_is_any : (a : Bool) (v : ℕ → Bool) (es : Formulas) → folded (λ x y. x || y) a v es ≡ (a || any_true v es)
fold_is_any true v no_operand = refl
fold_is_any false v no_operand = refl
fold_is_any true v (operand e es) = fold_is_any true v es
fold_is_any false v (operand e es) = fold_is_any (value v e) v es

-- the operands joined one after another
abbrev group_folded : (Bool → Bool → Bool) → (ℕ → Bool) → Formulas → Bool
group_folded f v no_operand = false
group_folded f v (operand e es) = folded f (value v e) v es

all_group : (v : ℕ → Bool) (es : Formulas) → 0 < operand_count es → group_folded (λ x y. x && y) v es ≡ all_true v es
all_group v no_operand h = absurd (omega arith)
all_group v (operand e es) h = fold_is_all (value v e) v es

any_group : (v : ℕ → Bool) (es : Formulas) → 0 < operand_count es → group_folded (λ x y. x || y) v es ≡ any_true v es
any_group v no_operand h = absurd (omega arith)
any_group v (operand e es) h = fold_is_any (value v e) v es

module _ (n m now : ℕ) (blocks code : List ℕ) (v : ℕ → Bool) where
  mutual
    -- the code of an expression: its value on the stack, and nothing else changed
    pub expression_runs : (e : Formula) (d : ℕ) (cells : List ℕ) (pc : ℕ) (stack : List Bool) → IsFine n d e → HasAt code pc (expression_code e) →
        Holds n now blocks cells pc stack v → length stack + d < 64 →
        Comes n m now code blocks cells (length (expression_code e)) (pc + size_all (expression_code e)) (stack ++ value v e ∷ []) v
    expression_runs (signal s) d cells pc stack is has h low =
        let low' : length stack < 64 = omega arith in
        one_turn n m now code blocks blocks cells pc (pc + 3) stack (stack ++ v s ∷ []) v v h (load_turn n m now blocks code cells pc s stack v has.0 h low' is.below)
    expression_runs (all_of es) d cells pc stack is has h low =
        let deep = is.shallow in
        let low' : length stack + 1 + (d - 1) < 64 = omega arith in
        let some : 0 < operand_count es = omega (arith, is.full.0) in
        let fine : AreFine n (d - 1) es = record { below = is.below; full = is.full.1; shallow = omega arith } in
        let r = group_runs And (λ x y. x && y) (and_joins n m now blocks code) es (d - 1) cells pc stack some fine has h low' in
        subst (λ b. Comes n m now code blocks cells (length (group_code And es)) (pc + size_all (group_code And es)) (stack ++ b ∷ []) v) (all_group v es some) r
    expression_runs (any_of es) d cells pc stack is has h low =
        let deep = is.shallow in
        let low' : length stack + 1 + (d - 1) < 64 = omega arith in
        let some : 0 < operand_count es = omega (arith, is.full.0) in
        let fine : AreFine n (d - 1) es = record { below = is.below; full = is.full.1; shallow = omega arith } in
        let r = group_runs Or (λ x y. x || y) (or_joins n m now blocks code) es (d - 1) cells pc stack some fine has h low' in
        subst (λ b. Comes n m now code blocks cells (length (group_code Or es)) (pc + size_all (group_code Or es)) (stack ++ b ∷ []) v) (any_group v es some) r

    group_runs : (i : Instruction) (f : Bool → Bool → Bool) → Joins n m now blocks code i f → (es : Formulas) (d : ℕ) (cells : List ℕ) (pc : ℕ) (stack : List Bool) →
        0 < operand_count es → AreFine n d es → HasAt code pc (group_code i es) → Holds n now blocks cells pc stack v → length stack + 1 + d < 64 →
        Comes n m now code blocks cells (length (group_code i es)) (pc + size_all (group_code i es)) (stack ++ group_folded f v es ∷ []) v
    group_runs i f j no_operand d cells pc stack some is has h low = absurd (omega arith)
    group_runs i f j (operand e es) d cells pc stack some is has h low =
        let ce = expression_code e in
        let cr = later_code i es in
        let low' : length stack + d < 64 = omega arith in
        let x = expression_runs e d cells pc stack (first_fine n d e es is) (has_front code pc ce cr has) h low' in
        let w = later_runs i f j es (value v e) d (turned (turn_of n m code) (length ce) cells) (pc + size_all ce) stack (later_fine n d e es is) (has_back code pc ce cr has) x.there low in
        let el : length ce + length cr ≡ length (ce ++ cr) = sym (length-append ce cr) in
        let ep : pc + size_all ce + size_all cr ≡ pc + size_all (ce ++ cr) = omega (arith, size_all-append ce cr) in
        comes_as n m now code blocks cells _ _ _ _ _ _ v el ep refl (comes_on n m now code blocks blocks cells (length ce) (length cr) _ _ _ _ v v x w)

    later_runs : (i : Instruction) (f : Bool → Bool → Bool) → Joins n m now blocks code i f → (es : Formulas) (a : Bool) (d : ℕ) (cells : List ℕ) (pc : ℕ) (stack : List Bool) →
        AreFine n d es → HasAt code pc (later_code i es) → Holds n now blocks cells pc (stack ++ a ∷ []) v → length stack + 1 + d < 64 →
        Comes n m now code blocks cells (length (later_code i es)) (pc + size_all (later_code i es)) (stack ++ folded f a v es ∷ []) v
    later_runs i f j no_operand a d cells pc stack is has h low =
        let ep : pc ≡ pc + 0 = omega arith in
        comes_as n m now code blocks cells 0 0 pc (pc + 0) (stack ++ a ∷ []) (stack ++ a ∷ []) v refl ep refl (stays n m now code blocks cells pc (stack ++ a ∷ []) v h)
    later_runs i f j (operand e es) a d cells pc stack is has h low =
        let ce = expression_code e in
        let cr = later_code i es in
        let pc1 = pc + size_all ce in
        let low1 : length (stack ++ a ∷ []) + d < 64 = omega (arith, length-append stack (a ∷ [])) in
        let low2 : length stack < 63 = omega arith in
        let x = expression_runs e d cells pc (stack ++ a ∷ []) (first_fine n d e es is) (has_front code pc ce (i ∷ cr) has) h low1 in
        let back = has_back code pc ce (i ∷ cr) has in
        let cells1 = turned (turn_of n m code) (length ce) cells in
        let t = j cells1 pc1 stack v a (value v e) back.0 x.there low2 in
        let y = one_turn n m now code blocks blocks cells1 pc1 (pc1 + size_of i) ((stack ++ a ∷ []) ++ value v e ∷ []) (stack ++ f a (value v e) ∷ []) v v x.there t in
        let w = later_runs i f j es (f a (value v e)) d (turn_of n m code cells1) (pc1 + size_of i) stack (later_fine n d e es is) back.1 t low in
        let yz = comes_on n m now code blocks blocks cells1 1 (length cr) _ _ _ _ v v y w in
        let el : length ce + (1 + length cr) ≡ length (ce ++ i ∷ cr) = omega (arith, length-append ce (i ∷ cr)) in
        let ep : pc1 + size_of i + size_all cr ≡ pc + size_all (ce ++ i ∷ cr) = omega (arith, size_all-append ce (i ∷ cr)) in
        comes_as n m now code blocks cells _ _ _ _ _ _ v el ep refl (comes_on n m now code blocks blocks cells (length ce) (1 + length cr) _ _ _ _ v v x yz)

  constant_runs : (b : Bool) (cells : List ℕ) (pc : ℕ) (stack : List Bool) → HasAt code pc (Const (bit b) ∷ []) → Holds n now blocks cells pc stack v → length stack < 30 →
      Comes n m now code blocks cells 1 (pc + 2) (stack ++ b ∷ []) v
  constant_runs b cells pc stack has h low =
      let low' : length stack < 64 = omega arith in
      one_turn n m now code blocks blocks cells pc (pc + 2) stack (stack ++ b ∷ []) v v h (const_turn n m now blocks code cells pc b stack v has.0 h low')

  -- the code of a pin: its value on the stack, and nothing else changed
  pin_runs : (default : Bool) (a : Actual) (cells : List ℕ) (pc : ℕ) (stack : List Bool) → IsFinePin n a → HasAt code pc (pin_code default a) →
      Holds n now blocks cells pc stack v → length stack < 30 →
      Comes n m now code blocks cells (length (pin_code default a)) (pc + size_all (pin_code default a)) (stack ++ pin_value v default a ∷ []) v
  pin_runs default free cells pc stack is has h low = constant_runs default cells pc stack has h low
  pin_runs default (literal b) cells pc stack is has h low = constant_runs b cells pc stack has h low
  pin_runs default (time t) cells pc stack is has h low = constant_runs false cells pc stack has h low
  pin_runs default (wired e) cells pc stack is has h low = expression_runs e 34 cells pc stack is has h (omega arith)

  -- the code of all pins: their values on the stack, in order
  pub pins_run : (kind : Kind) (args : List Actual) (count j : ℕ) (cells : List ℕ) (pc : ℕ) (stack : List Bool) → ((k : ℕ) → IsFinePin n (slice_index_or args k free)) →
      HasAt code pc (flat_map (code_at_pin kind args) (range_with_len j count)) → Holds n now blocks cells pc stack v → length stack + count < 30 →
      Comes n m now code blocks cells (length (flat_map (code_at_pin kind args) (range_with_len j count))) (pc + size_all (flat_map (code_at_pin kind args) (range_with_len j count)))
      (stack ++ map (pins_under v kind args) (range_with_len j count)) v
  pins_run kind args zero j cells pc stack is has h low =
      let ep : pc ≡ pc + 0 = omega arith in
      comes_as n m now code blocks cells 0 0 pc (pc + 0) stack (stack ++ []) v refl ep (sym (append-nil stack)) (stays n m now code blocks cells pc stack v h)
  pins_run kind args (suc count) j cells pc stack is has h low =
      let cj = code_at_pin kind args j in
      let cr = flat_map (code_at_pin kind args) (range_with_len (j + 1) count) in
      let b = pins_under v kind args j in
      let bs = map (pins_under v kind args) (range_with_len (j + 1) count) in
      let x = pin_runs (pin_at kind j).free (slice_index_or args j free) cells pc stack (is j) (has_front code pc cj cr has) h (omega arith) in
      let low' : length (stack ++ b ∷ []) + count < 30 = omega (arith, length-append stack (b ∷ [])) in
      let w = pins_run kind args count (j + 1) (turned (turn_of n m code) (length cj) cells) (pc + size_all cj) (stack ++ b ∷ []) is (has_back code pc cj cr has) x.there low' in
      let el : length cj + length cr ≡ length (cj ++ cr) = sym (length-append cj cr) in
      let ep : pc + size_all cj + size_all cr ≡ pc + size_all (cj ++ cr) = omega (arith, size_all-append cj cr) in
      comes_as n m now code blocks cells _ _ _ _ _ _ v el ep (append_assoc stack (b ∷ []) bs) (comes_on n m now code blocks blocks cells (length cj) (length cr) _ _ _ _ v v x w)
