-- What the plain cells hold while rows run, and what one turn makes of it.
use Rattle.std.proofs.Common.{◌≡◌, ◌≢◌, ℕ, suc, ◌+◌, ◌-◌, ◌<◌, ◌≤◌, Bool, true, false, cond, List, length, refl, sym, ap, ◌∙◌, inl, inr, arith, Ok, Some}
use Rattle.std.specs.Prelude.{slice_set, slice_index, nat_lt, ◌&&◌, ◌||◌, bit_and, bit_or}
use Rattle.std.proofs.lemmas.Bool.{lt-ltb, lt-leb, cases_eq}
use Rattle.std.proofs.lemmas.List.{get_or-set_same, get_or-set_other, length-set}
use Rattle.ps_model.specs.Formula.{Formula, Formulas, no_operand, operand, value, all_true, any_true}
use Rattle.ps_machine.specs.Bytes.{bit, is_no_bit}
use Rattle.ps_machine.proofs.Bits.{bit_is_bit, bit_and-bit, bit_or-bit}
use Rattle.ps_eqvm.specs.declared.layout.TheConstants.{WORK_CELLS}
use Rattle.ps_eqvm.specs.declared.operand.Operand.TheVariants.{Cell, Constant}
use Rattle.ps_eqvm.specs.Plain.{Plain}
use Rattle.ps_eqvm.specs.Rows.{EquationRow, set_row, all_row, any_row, operand_of, size_of, fetched}
use Rattle.ps_eqvm.specs.Acting.{trapped, byte_of, target_of, after_set, after_join, with_cell}
use Rattle.ps_eqvm.specs.Turn.{after_row, carried_out, turn_plain}
use Rattle.ps_eqvm.specs.Code.{work, constant_of}
use Rattle.ps_eqvm.specs.declared.trap.Trap.TheVariants.{NotBoolean}

-- Of n signals: the machine runs and is at a row, the signals have these values, and the times and the instances' bytes are these.
pub record Holds (n last passed : ℕ) (blocks : List ℕ) (p : Plain) (at : ℕ) (v : ℕ → Bool) : Type 0 where
  pub sized : length p.cells ≡ WORK_CELLS + n
  pub place : p.offset ≡ at
  pub running : p.progress ≡ 0
  pub kept_time : p.last ≡ last
  pub time : p.passed ≡ passed
  pub signals : (s : ℕ) → s < n → slice_index p.cells (WORK_CELLS + s) ≡ bit (v s)
  pub instances : p.blocks ≡ blocks

-- ---- operands
pub signal_operand : (n s : ℕ) → n ≤ 4000 → s < n → operand_of n s ≡ Cell (WORK_CELLS + s)
signal_operand n s few h =
    let e1 : nat_lt s 4000 ≡ true = lt-ltb s 4000 (omega arith) in
    rw (e1, lt-ltb s n h) refl

pub work_operand : (n d : ℕ) → d < WORK_CELLS → operand_of n (work d) ≡ Cell d
work_operand n d low =
    let e1 : nat_lt (61440 + d) 4000 ≡ false = lt-leb (suc (61440 + d)) 4000 (omega arith) in
    let e2 : nat_lt (61440 + d) 61440 ≡ false = lt-leb (suc (61440 + d)) 61440 (omega arith) in
    let e3 : nat_lt (61440 + d) 61488 ≡ true = lt-ltb (61440 + d) 61488 (omega arith) in
    let e4 : 61440 + d - 61440 ≡ d = omega arith in
    rw (e1, e2, e3, e4) refl

pub constant_operand : (n : ℕ) (b : Bool) → operand_of n (constant_of b) ≡ Constant b
constant_operand n true = refl
constant_operand n false = refl

-- ---- writes
pub work_put : (n last passed : ℕ) (blocks : List ℕ) (p : Plain) (at next d byte : ℕ) (v : ℕ → Bool) → Holds n last passed blocks p at v → d < WORK_CELLS →
    Holds n last passed blocks (with_cell d byte next p) next v
work_put n last passed blocks p at next d byte v h low = record {
  sized = length-set p.cells d byte ∙ h.sized;
  place = refl;
  running = h.running;
  kept_time = h.kept_time;
  time = h.time;
  signals = λ s l. get_or-set_other p.cells d (WORK_CELLS + s) byte 0 (λ e. omega arith) ∙ h.signals s l;
  instances = h.instances;
}

pub signal_put : (n last passed : ℕ) (blocks : List ℕ) (p : Plain) (at next t : ℕ) (b : Bool) (v v' : ℕ → Bool) → Holds n last passed blocks p at v → t < n → v' t ≡ b →
    ((s : ℕ) → s ≢ t → v' s ≡ v s) → Holds n last passed blocks (with_cell (WORK_CELLS + t) (bit b) next p) next v'
signal_put n last passed blocks p at next t b v v' h low new same = record {
  sized = length-set p.cells (WORK_CELLS + t) (bit b) ∙ h.sized;
  place = refl;
  running = h.running;
  kept_time = h.kept_time;
  time = h.time;
  signals = λ s l. let size = h.sized in elim (cases_eq s t) [
    | inl is ↦
        ap (λ k. slice_index (slice_set p.cells (WORK_CELLS + t) (bit b)) (WORK_CELLS + k)) is ∙ get_or-set_same p.cells (WORK_CELLS + t) (bit b) 0 (omega arith)
        ∙ ap bit (sym new ∙ ap v' (sym is))
    | inr other ↦ get_or-set_other p.cells (WORK_CELLS + t) (WORK_CELLS + s) (bit b) 0 (λ e. other (omega arith)) ∙ h.signals s l ∙ ap bit (sym (same s other))
  ];
  instances = h.instances;
}

-- ---- one turn
pub turn_is : (n k : ℕ) (code : List ℕ) (p : Plain) (at : ℕ) (r : EquationRow) → p.offset ≡ at → fetched code at ≡ Ok r →
    turn_plain n k code p ≡ after_row n k r (at + size_of r) p
turn_is n k code p at r place found =
    ap (λ x. carried_out n k (fetched code x) p) place ∙ ap (λ x. carried_out n k x p) found ∙ ap (λ x. after_row n k r (x + size_of r) p) place

pub set_goes : (n k t c i next : ℕ) (b : Bool) (p : Plain) → operand_of n t ≡ Cell i → byte_of p.cells (operand_of n c) ≡ Some (bit b) →
    after_row n k (set_row t c) next p ≡ with_cell i (bit b) next p
set_goes n k t c i next b p target reads =
    ap (λ o. after_set (target_of o) (byte_of p.cells (operand_of n c)) next p) target
    ∙ ap (λ o. after_set (Some i) o next p) reads
    ∙ ap (λ x. cond x (trapped NotBoolean p) (with_cell i (bit b) next p)) (bit_is_bit b)

-- A row that joins its operand to its target by f, which makes of the operands of a group, one after another, the value of the whole.
pub record Joins (n k : ℕ) (v : ℕ → Bool) (join : ℕ → ℕ → EquationRow) (f : Bool → Bool → Bool) (whole : Formulas → Bool) : Type 0 where
  pub size : (t c : ℕ) → size_of (join t c) ≡ 5
  pub goes : (t c i next : ℕ) (a b : Bool) (p : Plain) → operand_of n t ≡ Cell i → slice_index p.cells i ≡ bit a → byte_of p.cells (operand_of n c) ≡ Some (bit b) →
      after_row n k (join t c) next p ≡ with_cell i (bit (f a b)) next p
  pub first : (e : Formula) (es : Formulas) → f (value v e) (whole es) ≡ whole (operand e es)
  pub more : (a : Bool) (e : Formula) (es : Formulas) → f (f a (value v e)) (whole es) ≡ f a (whole (operand e es))
  pub end : (a : Bool) → a ≡ f a (whole no_operand)

join_goes : (g : ℕ → ℕ → ℕ) (f : Bool → Bool → Bool) (n t c i next : ℕ) (a b : Bool) (p : Plain) → ((x y : Bool) → g (bit x) (bit y) ≡ bit (f x y)) → operand_of n t ≡ Cell i →
    slice_index p.cells i ≡ bit a → byte_of p.cells (operand_of n c) ≡ Some (bit b) →
    after_join g (target_of (operand_of n t)) (byte_of p.cells (operand_of n c)) next p ≡ with_cell i (bit (f a b)) next p
join_goes g f n t c i next a b p same target was reads =
    ap (λ o. after_join g (target_of o) (byte_of p.cells (operand_of n c)) next p) target
    ∙ ap (λ o. after_join g (Some i) o next p) reads
    ∙ ap (λ x. cond (is_no_bit (bit b) || is_no_bit x) (trapped NotBoolean p) (with_cell i (g x (bit b)) next p)) was
    ∙ rw (bit_is_bit b, bit_is_bit a, same a b) refl

all_more : (a x y : Bool) → ((a && x) && y) ≡ (a && (x && y))
all_more true x y = refl
all_more false x y = refl

any_more : (a x y : Bool) → ((a || x) || y) ≡ (a || (x || y))
any_more true x y = refl
any_more false x y = refl

all_end : (a : Bool) → a ≡ (a && true)
all_end true = refl
all_end false = refl

any_end : (a : Bool) → a ≡ (a || false)
any_end true = refl
any_end false = refl

pub all_joins : (n k : ℕ) (v : ℕ → Bool) → Joins n k v all_row (λ x y. x && y) (all_true v)
all_joins n k v = record {
  size = λ t c. refl;
  goes = λ t c i next a b p. join_goes bit_and (λ x y. x && y) n t c i next a b p bit_and-bit;
  first = λ e es. refl;
  more = λ a e es. all_more a (value v e) (all_true v es);
  end = all_end;
}

pub any_joins : (n k : ℕ) (v : ℕ → Bool) → Joins n k v any_row (λ x y. x || y) (any_true v)
any_joins n k v = record {
  size = λ t c. refl;
  goes = λ t c i next a b p. join_goes bit_or (λ x y. x || y) n t c i next a b p bit_or-bit;
  first = λ e es. refl;
  more = λ a e es. any_more a (value v e) (any_true v es);
  end = any_end;
}
