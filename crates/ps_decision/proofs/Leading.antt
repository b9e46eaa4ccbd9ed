-- The machine follows the rows of a value, and those of the pins of a call.
use Rattle.std.proofs.Common.{inl, inr, ◌≡◌, ℕ, zero, suc, ◌+◌, ◌-◌, ◌*◌, ◌<◌, ◌≤◌, Bool, true, false, cond, List, [], ◌∷◌, ◌++◌, length, map, refl, sym, ap, ◌∙◌, subst, arith, append_assoc, append-nil, length-append}
use Rattle.std.specs.Prelude.{slice_index_or, ◌&&◌, ◌||◌}
use Rattle.std.specs.List.{range_with_len}
use Rattle.std.proofs.lemmas.Bool.{cases_lt}
use Rattle.ps_model.specs.declared.kind.Kind.{Kind}
use Rattle.ps_model.specs.Formula.{Formula, Formulas, signal, all_of, any_of, no_operand, operand, value, all_true, any_true}
use Rattle.ps_model.specs.Action.{Actual, free, literal, time, wired}
use Rattle.ps_model.specs.Scanning.{pin_at, pin_value, pins_under}
use Rattle.ps_model.specs.Values.{IsBelow, AreBelow, HasOperands, HaveOperands, operand_count}
use Rattle.ps_machine.specs.Bytes.{bit}
use Rattle.ps_machine.specs.Machines.{turned}
use Rattle.ps_machine.proofs.Fine.{IsFinePin}
use Rattle.ps_machine.proofs.Phases.{turned_add}
use Rattle.ps_decision.specs.declared.layout.TheConstants.{PIN_CELLS, FIRST_PIN}
use Rattle.ps_decision.specs.declared.row.Row.{Row}
use Rattle.ps_decision.specs.declared.row.Row.TheVariants.{Set}
use Rattle.ps_decision.specs.Budget.{decisions, decisions_below}
use Rattle.ps_decision.specs.Cells.{progress_of}
use Rattle.ps_decision.specs.Code.{size_all, behind_value, if_last, value_rows, all_rows, any_rows, assigned_rows, pin_rows, rows_at_pin, in_order}
use Rattle.ps_decision.specs.Turn.{turn_of}
use Rattle.ps_decision.proofs.PlacedRows.{Has, HasAt, has_front, has_back, size_all-append}
use Rattle.ps_decision.proofs.Counted.{size_of_value, length_of_value}
use Rattle.ps_decision.proofs.Holding.{Holds, decide_turn, pin_turn}

module _ (n m now : ℕ) (code : List ℕ) where
  -- after at most so many turns, all of them of a running machine, the cells hold this
  pub record Leads (blocks cells : List ℕ) (most at : ℕ) (pins : List Bool) (v : ℕ → Bool) : Type 0 where
    pub turns : ℕ
    pub within : turns ≤ most
    pub there : Holds n now blocks (turned (turn_of n m code) turns cells) at pins v
    pub running : (j : ℕ) → j < turns → progress_of (turned (turn_of n m code) j cells) ≡ 0

  pub stays : (blocks cells : List ℕ) (at : ℕ) (pins : List Bool) (v : ℕ → Bool) → Holds n now blocks cells at pins v → Leads blocks cells 0 at pins v
  stays blocks cells at pins v h = record { turns = 0; within = omega arith; there = h; running = λ j l. absurd (omega arith) }

  pub one_turn : (blocks blocks' cells : List ℕ) (at at' : ℕ) (pins pins' : List Bool) (v v' : ℕ → Bool) → Holds n now blocks cells at pins v →
      Holds n now blocks' (turn_of n m code cells) at' pins' v' → Leads blocks' cells 1 at' pins' v'
  one_turn blocks blocks' cells at at' pins pins' v v' h g =
      record { turns = 1; within = omega arith; there = g; running = λ j l. let e : j ≡ 0 = omega arith in rw e h.running }

  pub leads_on : (blocks blocks' cells : List ℕ) (j k at at' : ℕ) (pins pins' : List Bool) (v v' : ℕ → Bool) (a : Leads blocks cells j at pins v) →
      Leads blocks' (turned (turn_of n m code) a.turns cells) k at' pins' v' → Leads blocks' cells (j + k) at' pins' v'
  leads_on blocks blocks' cells j k at at' pins pins' v v' a b =
      let within-a = a.within in
      let within-b = b.within in
      record {
        turns = a.turns + b.turns;
        within = omega arith;
        there = rw (turned_add (turn_of n m code) a.turns b.turns cells) b.there;
        running = λ i l. elim (cases_lt i a.turns) [
          | inl early ↦ a.running i early
          | inr late ↦
              let e : i ≡ a.turns + (i - a.turns) = omega arith in
              let h : i - a.turns < b.turns = omega arith in
              let r = b.running (i - a.turns) h in
              ap (λ x. progress_of (turned (turn_of n m code) x cells)) e ∙ ap progress_of (turned_add (turn_of n m code) a.turns (i - a.turns) cells) ∙ r
        ];
      }

  -- with more turns, and the same place and pins said otherwise
  pub leads_as : (blocks cells : List ℕ) (j k at at' : ℕ) (pins pins' : List Bool) (v : ℕ → Bool) → j ≤ k → at ≡ at' → pins ≡ pins' → Leads blocks cells j at pins v → Leads blocks cells k at' pins' v
  leads_as blocks cells j k at at' pins pins' v more same-at same-pins a =
      let within-a = a.within in
      record {
        turns = a.turns;
        within = omega arith;
        there = subst (λ x. Holds n now blocks (turned (turn_of n m code) a.turns cells) x pins' v) same-at (subst (λ x. Holds n now blocks (turned (turn_of n m code) a.turns cells) at x v) same-pins a.there);
        running = a.running;
      }

module _ (n m : ℕ) (few : n ≤ 4000) (now : ℕ) (blocks code : List ℕ) where
  module _ (pins : List Bool) (v : ℕ → Bool) where
    -- from an operand that leads on to the next, or to where the AND goes on
    all_step : (es : Formulas) (b : Bool) (cells : List ℕ) (j behind yes_at no_at : ℕ) → Leads n m now code blocks cells j (cond b (if_last es yes_at behind) no_at) pins v →
        (0 < operand_count es → (c : List ℕ) → Holds n now blocks c behind pins v → Leads n m now code blocks c (decisions_below es) (cond (all_true v es) yes_at no_at) pins v) →
        Leads n m now code blocks cells (j + decisions_below es) (cond (b && all_true v es) yes_at no_at) pins v
    all_step no_operand true cells j behind yes_at no_at x next = leads_as n m now code blocks cells j (j + 0) yes_at yes_at pins pins v (omega arith) refl refl x
    all_step no_operand false cells j behind yes_at no_at x next = leads_as n m now code blocks cells j (j + 0) no_at no_at pins pins v (omega arith) refl refl x
    all_step (operand e es) true cells j behind yes_at no_at x next =
        leads_on n m now code blocks blocks cells j (decisions_below (operand e es)) behind (cond (all_true v (operand e es)) yes_at no_at) pins pins v v x (next (omega arith) (turned (turn_of n m code) x.turns cells) x.there)
    all_step (operand e es) false cells j behind yes_at no_at x next =
        leads_as n m now code blocks cells j (j + decisions_below (operand e es)) no_at no_at pins pins v (omega arith) refl refl x

    -- the same for an OR
    any_step : (es : Formulas) (b : Bool) (cells : List ℕ) (j behind yes_at no_at : ℕ) → Leads n m now code blocks cells j (cond b yes_at (if_last es no_at behind)) pins v →
        (0 < operand_count es → (c : List ℕ) → Holds n now blocks c behind pins v → Leads n m now code blocks c (decisions_below es) (cond (any_true v es) yes_at no_at) pins v) →
        Leads n m now code blocks cells (j + decisions_below es) (cond (b || any_true v es) yes_at no_at) pins v
    any_step no_operand true cells j behind yes_at no_at x next = leads_as n m now code blocks cells j (j + 0) yes_at yes_at pins pins v (omega arith) refl refl x
    any_step no_operand false cells j behind yes_at no_at x next = leads_as n m now code blocks cells j (j + 0) no_at no_at pins pins v (omega arith) refl refl x
    any_step (operand e es) true cells j behind yes_at no_at x next =
        leads_as n m now code blocks cells j (j + decisions_below (operand e es)) yes_at yes_at pins pins v (omega arith) refl refl x
    any_step (operand e es) false cells j behind yes_at no_at x next =
        leads_on n m now code blocks blocks cells j (decisions_below (operand e es)) behind (cond (any_true v (operand e es)) yes_at no_at) pins pins v v x (next (omega arith) (turned (turn_of n m code) x.turns cells) x.there)

    -- the rows of the next operand stand after those of the first
    behind_first : (e : Formula) (rest : List Row) (at yes_at no_at : ℕ) → HasAt code at (value_rows e at yes_at no_at ++ rest) → HasAt code (behind_value at e) rest
    behind_first e rest at yes_at no_at has =
        subst (λ k. HasAt code (at + k) rest) (size_of_value e at yes_at no_at) (has_back code at (value_rows e at yes_at no_at) rest has)

    mutual
      -- the rows of a value lead to its yes place where it is TRUE, and else to its no place; nothing else is changed
      pub value_leads : (e : Formula) (cells : List ℕ) (at yes_at no_at : ℕ) → IsBelow n e → HasOperands e → HasAt code at (value_rows e at yes_at no_at) →
          Holds n now blocks cells at pins v → Leads n m now code blocks cells (decisions e) (cond (value v e) yes_at no_at) pins v
      value_leads (signal s) cells at yes_at no_at below full has h =
          one_turn n m now code blocks blocks cells at (cond (v s) yes_at no_at) pins pins v v h (decide_turn n m few now blocks code cells at s yes_at no_at pins v has.0 h below)
      value_leads (all_of es) cells at yes_at no_at below full has h = all_lead es cells at yes_at no_at (let two = full.0 in omega arith) below full.1 has h
      value_leads (any_of es) cells at yes_at no_at below full has h = any_lead es cells at yes_at no_at (let two = full.0 in omega arith) below full.1 has h

      all_lead : (es : Formulas) (cells : List ℕ) (at yes_at no_at : ℕ) → 0 < operand_count es → AreBelow n es → HaveOperands es → HasAt code at (all_rows es at yes_at no_at) →
          Holds n now blocks cells at pins v → Leads n m now code blocks cells (decisions_below es) (cond (all_true v es) yes_at no_at) pins v
      all_lead no_operand cells at yes_at no_at some below full has h = absurd (omega arith)
      all_lead (operand e es) cells at yes_at no_at some below full has h =
          let behind = behind_value at e in
          let goes = if_last es yes_at behind in
          let rest = all_rows es behind yes_at no_at in
          all_step es (value v e) cells (decisions e) behind yes_at no_at
          (value_leads e cells at goes no_at below.0 full.0 (has_front code at (value_rows e at goes no_at) rest has) h)
          (λ more c g. all_lead es c behind yes_at no_at more below.1 full.1 (behind_first e rest at goes no_at has) g)

      any_lead : (es : Formulas) (cells : List ℕ) (at yes_at no_at : ℕ) → 0 < operand_count es → AreBelow n es → HaveOperands es → HasAt code at (any_rows es at yes_at no_at) →
          Holds n now blocks cells at pins v → Leads n m now code blocks cells (decisions_below es) (cond (any_true v es) yes_at no_at) pins v
      any_lead no_operand cells at yes_at no_at some below full has h = absurd (omega arith)
      any_lead (operand e es) cells at yes_at no_at some below full has h =
          let behind = behind_value at e in
          let goes = if_last es no_at behind in
          let rest = any_rows es behind yes_at no_at in
          any_step es (value v e) cells (decisions e) behind yes_at no_at
          (value_leads e cells at yes_at goes below.0 full.0 (has_front code at (value_rows e at yes_at goes) rest has) h)
          (λ more c g. any_lead es c behind yes_at no_at more below.1 full.1 (behind_first e rest at yes_at goes has) g)

    -- a SET of the target leaves these pins and signals
    abbrev pub Sets : (target : ℕ) (pins' : Bool → List Bool) (v' : Bool → ℕ → Bool) → Type 0
    Sets target pins' v' = (b : Bool) (cells : List ℕ) (at next : ℕ) → Has code at (Set target (bit b) next) → Holds n now blocks cells at pins v →
        Holds n now blocks (turn_of n m code cells) next (pins' b) (v' b)

    -- from the yes place or the no place of a value to after the rows that set its target
    set_step : (target : ℕ) (pins' : Bool → List Bool) (v' : Bool → ℕ → Bool) → Sets target pins' v' → (b : Bool) (cells : List ℕ) (j set next : ℕ) →
        Has code set (Set target 1 next) → Has code (set + 8) (Set target 0 next) → Leads n m now code blocks cells j (cond b set (set + 8)) pins v →
        Leads n m now code blocks cells (j + 1) next (pins' b) (v' b)
    set_step target pins' v' sets true cells j set next yes_row no_row x =
        leads_on n m now code blocks blocks cells j 1 set next pins (pins' true) v (v' true) x
        (one_turn n m now code blocks blocks (turned (turn_of n m code) x.turns cells) set next pins (pins' true) v (v' true) x.there (sets true (turned (turn_of n m code) x.turns cells) set next yes_row x.there))
    set_step target pins' v' sets false cells j set next yes_row no_row x =
        leads_on n m now code blocks blocks cells j 1 (set + 8) next pins (pins' false) v (v' false) x
        (one_turn n m now code blocks blocks (turned (turn_of n m code) x.turns cells) (set + 8) next pins (pins' false) v (v' false) x.there (sets false (turned (turn_of n m code) x.turns cells) (set + 8) next no_row x.there))

    -- the rows of a value and its target
    pub assigned_leads : (target : ℕ) (pins' : Bool → List Bool) (v' : Bool → ℕ → Bool) → Sets target pins' v' → (e : Formula) (cells : List ℕ) (at : ℕ) → IsBelow n e → HasOperands e →
        HasAt code at (assigned_rows target e at) → Holds n now blocks cells at pins v →
        Leads n m now code blocks cells (length (assigned_rows target e at)) (at + size_all (assigned_rows target e at)) (pins' (value v e)) (v' (value v e))
    assigned_leads target pins' v' sets e cells at below full has h =
        let set = behind_value at e in
        let two = Set target 1 (set + 16) ∷ Set target 0 (set + 16) ∷ [] in
        let rows = value_rows e at set (set + 8) in
        let x = value_leads e cells at set (set + 8) below full (has_front code at rows two has) h in
        let back : HasAt code set two = behind_first e two at set (set + 8) has in
        let y = set_step target pins' v' sets (value v e) cells (decisions e) set (set + 16) back.0 back.1.0 x in
        let long : length (rows ++ two) ≡ length rows + 2 = length-append rows two in
        let count : length rows ≡ decisions e = length_of_value e at set (set + 8) in
        let size : size_all rows ≡ 11 * decisions e = size_of_value e at set (set + 8) in
        let all : size_all (rows ++ two) ≡ size_all rows + 16 = size_all-append rows two in
        let end : set + 16 ≡ at + size_all (rows ++ two) = omega arith in
        leads_as n m now code blocks cells (decisions e + 1) (length (rows ++ two)) (set + 16) (at + size_all (rows ++ two)) (pins' (value v e)) (pins' (value v e)) (v' (value v e)) (omega arith) end refl y

    pin_sets : (j : ℕ) → length pins ≡ j → j < PIN_CELLS → Sets (FIRST_PIN + j) (λ b. pins ++ b ∷ []) (λ b. v)
    pin_sets j many low b cells at next has h = pin_turn n m few now blocks code cells at j next pins v b has h many low

    literal_leads : (j : ℕ) → length pins ≡ j → j < PIN_CELLS → (b : Bool) (cells : List ℕ) (at : ℕ) → HasAt code at (Set (FIRST_PIN + j) (bit b) (at + 8) ∷ []) → Holds n now blocks cells at pins v →
        Leads n m now code blocks cells 1 (at + 8) (pins ++ b ∷ []) v
    literal_leads j many low b cells at has h =
        one_turn n m now code blocks blocks cells at (at + 8) pins (pins ++ b ∷ []) v v h (pin_sets j many low b cells at (at + 8) has.0 h)

    -- the rows of a pin: its value in its pin cell, and nothing else changed
    pin_leads : (j : ℕ) → length pins ≡ j → j < PIN_CELLS → (default : Bool) (a : Actual) (cells : List ℕ) (at : ℕ) → IsFinePin n a → HasAt code at (pin_rows (FIRST_PIN + j) default a at) →
        Holds n now blocks cells at pins v →
        Leads n m now code blocks cells (length (pin_rows (FIRST_PIN + j) default a at)) (at + size_all (pin_rows (FIRST_PIN + j) default a at)) (pins ++ pin_value v default a ∷ []) v
    pin_leads j many low default free cells at is has h = literal_leads j many low default cells at has h
    pin_leads j many low default (literal b) cells at is has h = literal_leads j many low b cells at has h
    pin_leads j many low default (time t) cells at is has h = literal_leads j many low false cells at has h
    pin_leads j many low default (wired e) cells at is has h =
        assigned_leads (FIRST_PIN + j) (λ b. pins ++ b ∷ []) (λ b. v) (pin_sets j many low) e cells at is.below is.full has h

  -- the rows of all pins: their values in the pin cells, in order
  pub pins_lead : (v : ℕ → Bool) (kind : Kind) (args : List Actual) (count j : ℕ) (cells : List ℕ) (at : ℕ) (pins : List Bool) → length pins ≡ j → j + count ≤ PIN_CELLS →
      ((k : ℕ) → IsFinePin n (slice_index_or args k free)) → HasAt code at (in_order (rows_at_pin kind args) (range_with_len j count) at) → Holds n now blocks cells at pins v →
      Leads n m now code blocks cells (length (in_order (rows_at_pin kind args) (range_with_len j count) at)) (at + size_all (in_order (rows_at_pin kind args) (range_with_len j count) at))
      (pins ++ map (pins_under v kind args) (range_with_len j count)) v
  pins_lead v kind args zero j cells at pins many low is has h =
      leads_as n m now code blocks cells 0 0 at (at + 0) pins (pins ++ []) v (omega arith) (omega arith) (sym (append-nil pins)) (stays n m now code blocks cells at pins v h)
  pins_lead v kind args (suc count) j cells at pins many low is has h =
      let rj = rows_at_pin kind args j at in
      let next = at + size_all rj in
      let rr = in_order (rows_at_pin kind args) (range_with_len (j + 1) count) next in
      let b = pins_under v kind args j in
      let bs = map (pins_under v kind args) (range_with_len (j + 1) count) in
      let x = pin_leads pins v j many (omega arith) (pin_at kind j).free (slice_index_or args j free) cells at (is j) (has_front code at rj rr has) h in
      let many' : length (pins ++ b ∷ []) ≡ j + 1 = omega (arith, length-append pins (b ∷ [])) in
      let w = pins_lead v kind args count (j + 1) (turned (turn_of n m code) x.turns cells) next (pins ++ b ∷ []) many' (omega arith) is (has_back code at rj rr has) x.there in
      let el : length rj + length rr ≤ length (rj ++ rr) = omega (arith, length-append rj rr) in
      let ep : next + size_all rr ≡ at + size_all (rj ++ rr) = omega (arith, size_all-append rj rr) in
      leads_as n m now code blocks cells _ _ _ _ _ _ v el ep (append_assoc pins (b ∷ []) bs) (leads_on n m now code blocks blocks cells (length rj) (length rr) _ _ _ _ v v x w)
