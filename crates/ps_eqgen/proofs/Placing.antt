-- The machine follows the rows of an expression, and those of the pins of a call.
use Rattle.std.proofs.Common.{◌≡◌, ℕ, zero, suc, ◌+◌, ◌-◌, ◌<◌, ◌≤◌, Bool, false, List, [], ◌∷◌, ◌++◌, length, refl, sym, ap, ◌∙◌, subst, inl, inr, arith, length-append, Ok, Some}
use Rattle.std.specs.Prelude.{slice_index, slice_index_or, ◌&&◌, ◌||◌}
use Rattle.std.specs.List.{flat_map, range_with_len}
use Rattle.std.proofs.lemmas.Bool.{cases_lt, cases_eq}
use Rattle.std.proofs.lemmas.List.{get_or-set_same, get_or-set_other}
use Rattle.ps_model.specs.declared.kind.Kind.{Kind}
use Rattle.ps_model.specs.Formula.{Formula, Formulas, signal, all_of, any_of, no_operand, operand, value, all_true, any_true}
use Rattle.ps_model.specs.Action.{Actual, free, literal, time, wired}
use Rattle.ps_model.specs.Scanning.{pin_at, pin_value, pins_under}
use Rattle.ps_model.specs.Values.{operand_count}
use Rattle.ps_machine.specs.Bytes.{bit}
use Rattle.ps_machine.specs.Machines.{turned}
use Rattle.ps_machine.proofs.Fine.{IsFine, AreFine, IsFinePin, first_fine, later_fine}
use Rattle.ps_machine.proofs.Phases.{turned_add}
use Rattle.ps_eqvm.specs.declared.layout.TheConstants.{WORK_CELLS}
use Rattle.ps_eqvm.specs.Plain.{Plain}
use Rattle.ps_eqvm.specs.Rows.{EquationRow, set_row, all_row, any_row, operand_of, size_of, fetched}
use Rattle.ps_eqvm.specs.Acting.{byte_of, with_cell}
use Rattle.ps_eqvm.specs.Turn.{after_row, turn_plain}
use Rattle.ps_eqvm.specs.Code.{work, constant_of, operand_at, expression_rows, group_rows, later_rows, pin_rows, pin_operand, rows_at, operand_of_pin}
use Rattle.ps_eqgen.proofs.Decoding.{HasAt, has_front, has_back, size_all, size_all-append}
use Rattle.ps_eqgen.proofs.Holding.{Holds, Joins, all_joins, any_joins, signal_operand, work_operand, constant_operand, work_put, turn_is, set_goes}

-- the operand reads a truth value
abbrev pub Reads : ℕ → Plain → ℕ → Bool → Type 0
Reads n p c b = byte_of p.cells (operand_of n c) ≡ Some (bit b)

module _ (n k last passed : ℕ) (code : List ℕ) where
  -- After so many turns, all of them of a running machine, the cells hold this, and the work cells below d are as they were.
  pub record Comes (blocks : List ℕ) (p : Plain) (turns at d : ℕ) (v : ℕ → Bool) : Type 0 where
    pub there : Holds n last passed blocks (turned (turn_plain n k code) turns p) at v
    pub running : (j : ℕ) → j < turns → (turned (turn_plain n k code) j p).progress ≡ 0
    pub below : (c : ℕ) → c < d → slice_index (turned (turn_plain n k code) turns p).cells c ≡ slice_index p.cells c

  pub stays : (blocks : List ℕ) (p : Plain) (at d : ℕ) (v : ℕ → Bool) → Holds n last passed blocks p at v → Comes blocks p 0 at d v
  stays blocks p at d v h = record { there = h; running = λ j l. absurd (omega arith); below = λ c l. refl }

  pub one_turn : (blocks blocks' : List ℕ) (p : Plain) (at at' d : ℕ) (v v' : ℕ → Bool) → Holds n last passed blocks p at v → Holds n last passed blocks' (turn_plain n k code p) at' v' →
      ((c : ℕ) → c < d → slice_index (turn_plain n k code p).cells c ≡ slice_index p.cells c) → Comes blocks' p 1 at' d v'
  one_turn blocks blocks' p at at' d v v' h g low =
      record { there = g; running = λ j l. let e : j ≡ 0 = omega arith in rw e h.running; below = low }

  -- of two runs, the first may leave more work cells alone
  pub comes_on : (blocks blocks' : List ℕ) (p : Plain) (i j at at' d d' : ℕ) (v v' : ℕ → Bool) → d' ≤ d → Comes blocks p i at d v →
      Comes blocks' (turned (turn_plain n k code) i p) j at' d' v' → Comes blocks' p (i + j) at' d' v'
  comes_on blocks blocks' p i j at at' d d' v v' less a b =
      let turn = turn_plain n k code in
      record {
        there = rw (turned_add turn i j p) b.there;
        running = λ m l. elim (cases_lt m i) [
          | inl early ↦ a.running m early
          | inr late ↦
              let e : m ≡ i + (m - i) = omega arith in
              let h : m - i < j = omega arith in
              let r = b.running (m - i) h in
              ap (λ x. (turned turn x p).progress) e ∙ ap (λ (x : Plain). x.progress) (turned_add turn i (m - i) p) ∙ r
        ];
        below = λ c l. ap (λ (x : Plain). slice_index x.cells c) (turned_add turn i j p) ∙ b.below c l ∙ a.below c (omega arith);
      }

  -- the same number of turns and place, said otherwise
  pub comes_as : (blocks : List ℕ) (p : Plain) (i j at at' d : ℕ) (v : ℕ → Bool) → i ≡ j → at ≡ at' → Comes blocks p i at d v → Comes blocks p j at' d v
  comes_as blocks p i j at at' d v ej ea a =
      subst (λ x. Comes blocks p x at' d v) ej (subst (λ x. Comes blocks p i x d v) ea a)

-- the rows of an expression ran, and its operand reads its value
pub record Placed (n k last passed : ℕ) (code blocks : List ℕ) (p : Plain) (at d : ℕ) (v : ℕ → Bool) (e : Formula) : Type 0 where
  pub comes : Comes n k last passed code blocks p (length (expression_rows d e)) (at + size_all (expression_rows d e)) d v
  pub reads : Reads n (turned (turn_plain n k code) (length (expression_rows d e)) p) (operand_at d e) (value v e)

-- rows ran, and work cell d has a truth value
record Joined (n k last passed : ℕ) (code blocks : List ℕ) (p : Plain) (rows : List EquationRow) (at d : ℕ) (v : ℕ → Bool) (b : Bool) : Type 0 where
  comes : Comes n k last passed code blocks p (length rows) (at + size_all rows) d v
  has : slice_index (turned (turn_plain n k code) (length rows) p).cells d ≡ bit b

module _ (n k : ℕ) (few : n ≤ 4000) (last passed : ℕ) (code blocks : List ℕ) (v : ℕ → Bool) where
  reads_work : (p : Plain) (d : ℕ) (b : Bool) → d < WORK_CELLS → slice_index p.cells d ≡ bit b → Reads n p (work d) b
  reads_work p d b low has = ap (byte_of p.cells) (work_operand n d low) ∙ ap Some has

  -- one row that writes b to work cell d
  write_turn : (p : Plain) (at d : ℕ) (r : EquationRow) (b : Bool) → Holds n last passed blocks p at v → fetched code at ≡ Ok r → size_of r ≡ 5 → d < WORK_CELLS →
      after_row n k r (at + 5) p ≡ with_cell d (bit b) (at + 5) p → Joined n k last passed code blocks p (r ∷ []) at d v b
  write_turn p at d r b h found size low goes =
      let final = with_cell d (bit b) (at + 5) p in
      let sized = h.sized in
      let e : turn_plain n k code p ≡ final = turn_is n k code p at r h.place found ∙ ap (λ x. after_row n k r (at + x) p) size ∙ goes in
      let ea : at + 5 ≡ at + (size_of r + 0) = omega (arith, size) in
      let held : Holds n last passed blocks (turn_plain n k code p) (at + 5) v =
      subst (λ q. Holds n last passed blocks q (at + 5) v) (sym e) (work_put n last passed blocks p at (at + 5) d (bit b) v h low) in
      let low' : (c : ℕ) → c < d → slice_index (turn_plain n k code p).cells c ≡ slice_index p.cells c =
      λ c l. ap (λ (x : Plain). slice_index x.cells c) e ∙ get_or-set_other p.cells d c (bit b) 0 (λ q. omega arith) in
      record {
        comes = comes_as n k last passed code blocks p 1 1 (at + 5) (at + (size_of r + 0)) d v refl ea (one_turn n k last passed code blocks blocks p at (at + 5) d v v h held low');
        has = ap (λ (x : Plain). slice_index x.cells d) e ∙ get_or-set_same p.cells d (bit b) 0 (omega arith);
      }

  joined_on : (p : Plain) (a b : List EquationRow) (at d : ℕ) (x y : Bool) → Joined n k last passed code blocks p a at d v x →
      Joined n k last passed code blocks (turned (turn_plain n k code) (length a) p) b (at + size_all a) d v y → Joined n k last passed code blocks p (a ++ b) at d v y
  joined_on p a b at d x y first second =
      let turn = turn_plain n k code in
      let el : length a + length b ≡ length (a ++ b) = sym (length-append a b) in
      let ea : at + size_all a + size_all b ≡ at + size_all (a ++ b) = omega (arith, size_all-append a b) in
      record {
        comes = comes_as n k last passed code blocks p _ _ _ _ d v el ea (comes_on n k last passed code blocks blocks p (length a) (length b) _ _ d d v v (omega arith) first.comes second.comes);
        has = ap (λ j. slice_index (turned turn j p).cells d) (sym el) ∙ ap (λ (q : Plain). slice_index q.cells d) (turned_add turn (length a) (length b) p) ∙ second.has;
      }

  held_after : (p : Plain) (at d : ℕ) (r : EquationRow) (b : Bool) → size_of r ≡ 5 → Joined n k last passed code blocks p (r ∷ []) at d v b → Holds n last passed blocks (turn_plain n k code p) (at + 5) v
  held_after p at d r b size y =
      let e : at + (size_of r + 0) ≡ at + 5 = omega (arith, size) in
      subst (λ x. Holds n last passed blocks (turn_plain n k code p) x v) e y.comes.there

  -- an operand's rows, the row that writes it, and the rows of those that follow
  after_operand : (p : Plain) (at d : ℕ) (re : List EquationRow) (row : EquationRow) (rest : List EquationRow) (b c : Bool) → Comes n k last passed code blocks p (length re) (at + size_all re) (d + 1) v → size_of row ≡ 5 →
      Joined n k last passed code blocks (turned (turn_plain n k code) (length re) p) (row ∷ []) (at + size_all re) d v b →
      Joined n k last passed code blocks (turn_plain n k code (turned (turn_plain n k code) (length re) p)) rest (at + size_all re + 5) d v c →
      Joined n k last passed code blocks p (re ++ row ∷ rest) at d v c
  after_operand p at d re row rest b c x size y w =
      let turn = turn_plain n k code in
      let p1 = turned turn (length re) p in
      let at1 = at + size_all re in
      let ew : at1 + 5 ≡ at1 + size_all (row ∷ []) = omega (arith, size) in
      let w' : Joined n k last passed code blocks (turned turn (length (row ∷ [])) p1) rest (at1 + size_all (row ∷ [])) d v c =
      subst (λ z. Joined n k last passed code blocks (turned turn 1 p1) rest z d v c) ew w in
      let yw = joined_on p1 (row ∷ []) rest at1 d b c y w' in
      let el : length re + length (row ∷ rest) ≡ length (re ++ row ∷ rest) = sym (length-append re (row ∷ rest)) in
      let ea : at1 + size_all (row ∷ rest) ≡ at + size_all (re ++ row ∷ rest) = omega (arith, size_all-append re (row ∷ rest)) in
      record {
        comes = comes_as n k last passed code blocks p _ _ _ _ d v el ea (comes_on n k last passed code blocks blocks p (length re) (length (row ∷ rest)) _ _ (d + 1) d v v (omega arith) x yw.comes);
        has = ap (λ j. slice_index (turned turn j p).cells d) (sym el) ∙ ap (λ (q : Plain). slice_index q.cells d) (turned_add turn (length re) (length (row ∷ rest)) p) ∙ yw.has;
      }

  mutual
    -- an expression at level d: its operand reads its value, and the work cells below d and the signals stay
    pub expression_placed : (e : Formula) (r d : ℕ) (p : Plain) (at : ℕ) → IsFine n r e → d + r ≤ WORK_CELLS → HasAt code at (expression_rows d e) → Holds n last passed blocks p at v →
        Placed n k last passed code blocks p at d v e
    expression_placed (signal s) r d p at is low has h =
        let ea : at ≡ at + 0 = omega arith in
        record {
          comes = comes_as n k last passed code blocks p 0 0 at (at + 0) d v refl ea (stays n k last passed code blocks p at d v h);
          reads = ap (byte_of p.cells) (signal_operand n s few is.below) ∙ ap Some (h.signals s is.below);
        }
    expression_placed (all_of es) r d p at is low has h =
        let deep = is.shallow in
        let low' : d + 1 + (r - 1) ≤ WORK_CELLS = omega arith in
        let low'' : d < WORK_CELLS = omega arith in
        let some : 0 < operand_count es = omega (arith, is.full.0) in
        let fine : AreFine n (r - 1) es = record { below = is.below; full = is.full.1; shallow = omega arith } in
        let x = group_joined all_row (λ x y. x && y) (all_true v) (all_joins n k v) es (r - 1) d p at some fine low' low'' has h in
        record {
          comes = x.comes;
          reads = reads_work (turned (turn_plain n k code) (length (group_rows d all_row es)) p) d (all_true v es) low'' x.has;
        }
    expression_placed (any_of es) r d p at is low has h =
        let deep = is.shallow in
        let low' : d + 1 + (r - 1) ≤ WORK_CELLS = omega arith in
        let low'' : d < WORK_CELLS = omega arith in
        let some : 0 < operand_count es = omega (arith, is.full.0) in
        let fine : AreFine n (r - 1) es = record { below = is.below; full = is.full.1; shallow = omega arith } in
        let x = group_joined any_row (λ x y. x || y) (any_true v) (any_joins n k v) es (r - 1) d p at some fine low' low'' has h in
        record {
          comes = x.comes;
          reads = reads_work (turned (turn_plain n k code) (length (group_rows d any_row es)) p) d (any_true v es) low'' x.has;
        }

    group_joined : (join : ℕ → ℕ → EquationRow) (f : Bool → Bool → Bool) (whole : Formulas → Bool) → Joins n k v join f whole → (es : Formulas) (r d : ℕ) (p : Plain) (at : ℕ) →
        0 < operand_count es → AreFine n r es → d + 1 + r ≤ WORK_CELLS → d < WORK_CELLS → HasAt code at (group_rows d join es) → Holds n last passed blocks p at v →
        Joined n k last passed code blocks p (group_rows d join es) at d v (whole es)
    group_joined join f whole j no_operand r d p at some is low low' has h = absurd (omega arith)
    group_joined join f whole j (operand e es) r d p at some is low low' has h =
        let re = expression_rows (d + 1) e in
        let row = set_row (work d) (operand_at (d + 1) e) in
        let rest = later_rows d join es in
        let x = expression_placed e r (d + 1) p at (first_fine n r e es is) low (has_front code at re (row ∷ rest) has) h in
        let p1 = turned (turn_plain n k code) (length re) p in
        let at1 = at + size_all re in
        let back = has_back code at re (row ∷ rest) has in
        let y = write_turn p1 at1 d row (value v e) x.comes.there back.0 refl low'
        (set_goes n k (work d) (operand_at (d + 1) e) d (at1 + 5) (value v e) p1 (work_operand n d low') x.reads) in
        let w = later_joined join f whole j es (value v e) r d (turn_plain n k code p1) (at1 + 5) (later_fine n r e es is) low low' back.1 (held_after p1 at1 d row (value v e) refl y) y.has in
        let all = after_operand p at d re row rest (value v e) (f (value v e) (whole es)) x.comes refl y w in
        subst (λ b. Joined n k last passed code blocks p (group_rows d join (operand e es)) at d v b) (j.first e es) all

    later_joined : (join : ℕ → ℕ → EquationRow) (f : Bool → Bool → Bool) (whole : Formulas → Bool) → Joins n k v join f whole → (es : Formulas) (a : Bool) (r d : ℕ) (p : Plain) (at : ℕ) →
        AreFine n r es → d + 1 + r ≤ WORK_CELLS → d < WORK_CELLS → HasAt code at (later_rows d join es) → Holds n last passed blocks p at v → slice_index p.cells d ≡ bit a →
        Joined n k last passed code blocks p (later_rows d join es) at d v (f a (whole es))
    later_joined join f whole j no_operand a r d p at is low low' has h was =
        let ea : at ≡ at + 0 = omega arith in
        record {
          comes = comes_as n k last passed code blocks p 0 0 at (at + 0) d v refl ea (stays n k last passed code blocks p at d v h);
          has = was ∙ ap bit (j.end a);
        }
    later_joined join f whole j (operand e es) a r d p at is low low' has h was =
        let re = expression_rows (d + 1) e in
        let row = join (work d) (operand_at (d + 1) e) in
        let rest = later_rows d join es in
        let b = f a (value v e) in
        let size = j.size (work d) (operand_at (d + 1) e) in
        let x = expression_placed e r (d + 1) p at (first_fine n r e es is) low (has_front code at re (row ∷ rest) has) h in
        let p1 = turned (turn_plain n k code) (length re) p in
        let at1 = at + size_all re in
        let back = has_back code at re (row ∷ rest) has in
        let kept : slice_index p1.cells d ≡ bit a = x.comes.below d (omega arith) ∙ was in
        let y = write_turn p1 at1 d row b x.comes.there back.0 size low'
        (j.goes (work d) (operand_at (d + 1) e) d (at1 + 5) a (value v e) p1 (work_operand n d low') kept x.reads) in
        let back' : HasAt code (at1 + 5) rest = subst (λ z. HasAt code (at1 + z) rest) size back.1 in
        let w = later_joined join f whole j es b r d (turn_plain n k code p1) (at1 + 5) (later_fine n r e es is) low low' back' (held_after p1 at1 d row b size y) y.has in
        let all = after_operand p at d re row rest b (f b (whole es)) x.comes size y w in
        subst (λ c. Joined n k last passed code blocks p (later_rows d join (operand e es)) at d v c) (j.more a e es) all

  -- ---- pins
  record PinPlaced (p : Plain) (at d : ℕ) (default : Bool) (a : Actual) : Type 0 where
    comes : Comes n k last passed code blocks p (length (pin_rows d a)) (at + size_all (pin_rows d a)) d v
    reads : Reads n (turned (turn_plain n k code) (length (pin_rows d a)) p) (pin_operand default d a) (pin_value v default a)

  no_rows : (p : Plain) (at d : ℕ) → Holds n last passed blocks p at v → Comes n k last passed code blocks p 0 (at + 0) d v
  no_rows p at d h = let ea : at ≡ at + 0 = omega arith in comes_as n k last passed code blocks p 0 0 at (at + 0) d v refl ea (stays n k last passed code blocks p at d v h)

  reads_constant : (p : Plain) (b : Bool) → Reads n p (constant_of b) b
  reads_constant p b = ap (byte_of p.cells) (constant_operand n b)

  pin_placed : (a : Actual) (default : Bool) (d : ℕ) (p : Plain) (at : ℕ) → IsFinePin n a → d + 34 ≤ WORK_CELLS → HasAt code at (pin_rows d a) → Holds n last passed blocks p at v → PinPlaced p at d default a
  pin_placed free default d p at is low has h = record { comes = no_rows p at d h; reads = reads_constant p default }
  pin_placed (literal b) default d p at is low has h = record { comes = no_rows p at d h; reads = reads_constant p b }
  pin_placed (time t) default d p at is low has h = record { comes = no_rows p at d h; reads = reads_constant p false }
  pin_placed (wired e) default d p at is low has h =
      let x = expression_placed e 34 d p at is low has h in
      record { comes = x.comes; reads = x.reads }

  -- a pin's operand reads the same once later pins are placed
  still : (a : Actual) (default : Bool) (d : ℕ) (p q : Plain) (at at' : ℕ) → IsFinePin n a → d < WORK_CELLS → Holds n last passed blocks p at v → Holds n last passed blocks q at' v →
      ((c : ℕ) → c < d + 1 → slice_index q.cells c ≡ slice_index p.cells c) →
      byte_of q.cells (operand_of n (pin_operand default d a)) ≡ byte_of p.cells (operand_of n (pin_operand default d a))
  still free default d p q at at' is low h g same = reads_constant q default ∙ sym (reads_constant p default)
  still (literal b) default d p q at at' is low h g same = reads_constant q b ∙ sym (reads_constant p b)
  still (time t) default d p q at at' is low h g same = reads_constant q false ∙ sym (reads_constant p false)
  still (wired (signal s)) default d p q at at' is low h g same =
      ap (byte_of q.cells) (signal_operand n s few is.below) ∙ ap Some (g.signals s is.below ∙ sym (h.signals s is.below)) ∙ sym (ap (byte_of p.cells) (signal_operand n s few is.below))
  still (wired (all_of es)) default d p q at at' is low h g same =
      ap (byte_of q.cells) (work_operand n d low) ∙ ap Some (same d (omega arith)) ∙ sym (ap (byte_of p.cells) (work_operand n d low))
  still (wired (any_of es)) default d p q at at' is low h g same =
      ap (byte_of q.cells) (work_operand n d low) ∙ ap Some (same d (omega arith)) ∙ sym (ap (byte_of p.cells) (work_operand n d low))

  -- the pins from j on are placed
  pub record PinsPlaced (kind : Kind) (args : List Actual) (p : Plain) (at j count : ℕ) : Type 0 where
    pub comes : Comes n k last passed code blocks p (length (flat_map (rows_at args) (range_with_len j count))) (at + size_all (flat_map (rows_at args) (range_with_len j count))) j v
    pub reads : (i : ℕ) → j ≤ i → i < j + count →
        Reads n (turned (turn_plain n k code) (length (flat_map (rows_at args) (range_with_len j count))) p) (operand_of_pin kind args i) (pins_under v kind args i)

  pub pins_placed : (kind : Kind) (args : List Actual) (count j : ℕ) (p : Plain) (at : ℕ) → ((i : ℕ) → IsFinePin n (slice_index_or args i free)) → j + count ≤ 14 →
      HasAt code at (flat_map (rows_at args) (range_with_len j count)) → Holds n last passed blocks p at v → PinsPlaced kind args p at j count
  pins_placed kind args zero j p at is low has h = record { comes = no_rows p at j h; reads = λ i from to. absurd (omega arith) }
  pins_placed kind args (suc count) j p at is low has h =
      let turn = turn_plain n k code in
      let a = slice_index_or args j free in
      let ra = rows_at args j in
      let rest = flat_map (rows_at args) (range_with_len (j + 1) count) in
      let low' : j + 1 + count ≤ 14 = omega arith in
      let x = pin_placed a (pin_at kind j).free j p at (is j) (omega arith) (has_front code at ra rest has) h in
      let p1 = turned turn (length ra) p in
      let y = pins_placed kind args count (j + 1) p1 (at + size_all ra) is low' (has_back code at ra rest has) x.comes.there in
      let el : length ra + length rest ≡ length (ra ++ rest) = sym (length-append ra rest) in
      let ea : at + size_all ra + size_all rest ≡ at + size_all (ra ++ rest) = omega (arith, size_all-append ra rest) in
      let later : Comes n k last passed code blocks p1 (length rest) (at + size_all ra + size_all rest) j v =
      record { there = y.comes.there; running = y.comes.running; below = λ c l. y.comes.below c (omega arith) } in
      let whole = comes_on n k last passed code blocks blocks p (length ra) (length rest) _ _ j j v v (omega arith) x.comes later in
      let end : turned turn (length (ra ++ rest)) p ≡ turned turn (length rest) p1 = ap (λ z. turned turn z p) (sym el) ∙ turned_add turn (length ra) (length rest) p in
      record {
        comes = comes_as n k last passed code blocks p _ _ _ _ j v el ea whole;
        reads = λ i from to. ap (λ (q : Plain). byte_of q.cells (operand_of n (operand_of_pin kind args i))) end ∙ elim (cases_eq i j) [
          | inl here ↦
              subst (λ z. Reads n (turned turn (length rest) p1) (operand_of_pin kind args z) (pins_under v kind args z)) (sym here)
              (still a (pin_at kind j).free j p1 (turned turn (length rest) p1) _ _ (is j) (omega arith) x.comes.there y.comes.there y.comes.below ∙ x.reads)
          | inr later ↦ y.reads i (omega arith) (omega arith)
        ];
      }
