-- What a test over all choices of some Booleans shows.
use Rattle.std.proofs.Common.{◌≡◌, ℕ, zero, suc, ◌+◌, ◌*◌, Bool, true, false, cond, List, [], ◌∷◌, length, refl, sym, ap, ◌∙◌, ⊎_elim, arith, ◌&&◌, ◌||◌, not, subst, Option, Some, None}
use Rattle.std.specs.Prelude.{◌==◌, bit_and}
use Rattle.std.specs.List.{list_all, list_any}
use Rattle.std.proofs.lemmas.Bool.{false≢true, cases_Bool, and_parts, cond-true, cond-false, eqb-true, and_left}
use Rattle.ps_model.specs.declared.kind.Kind.{Kind}
use Rattle.ps_model.specs.Table.{Conditions, Row, Rule, decided, row_at}
use Rattle.ps_model.specs.Blocks.{next, block}
use Rattle.ps_model.specs.Stored.{bit, states, is_state}
use Rattle.ps_rows.specs.declared.mask_row.MaskRow.{MaskRow}
use Rattle.ps_rows.specs.Fitting.{fits, first_fit}
use Rattle.ps_rows.specs.Names.{complemented}
use Rattle.ps_rows.specs.Decision.{latches, action, decision}

-- ---- The test: in each state, under each choice of n Booleans, the rows give the table's next state and action.

abbrev pub each_choice : ℕ → (List Bool → Bool) → Bool
each_choice zero f = f []
each_choice (suc n) f = each_choice n (λ bs. f (true ∷ bs)) && each_choice n (λ bs. f (false ∷ bs))

abbrev pub is_answer : Option (ℕ × ℕ) → ℕ → ℕ → Bool
is_answer None q a = false
is_answer (Some x) q a = x.0 == q && x.1 == a

module _ (rows : List MaskRow) (kind : Kind) (named : List Bool → List Bool) (seen_by : List Bool → Conditions) where
  abbrev pub decides_at : ℕ → List Bool → Bool
  decides_at q bs =
      is_answer (first_fit rows q (complemented (named bs))) (next kind q (seen_by bs)) (action kind q (next kind q (seen_by bs)) (seen_by bs))

  abbrev pub decides : ℕ → Bool
  decides n = list_all (λ q. each_choice n (decides_at q)) (states kind)

-- every row is of a state
abbrev pub of_states : List MaskRow → Kind → Bool
of_states rows kind = list_all (λ r. is_state kind r.state) rows

-- ---- What it shows.

at_choice : (n : ℕ) (f : List Bool → Bool) → each_choice n f ≡ true → (bs : List Bool) → length bs ≡ n → f bs ≡ true
at_choice zero f h [] e = h
at_choice zero f h (b ∷ bs) e = absurd (omega arith)
at_choice (suc n) f h [] e = absurd (omega arith)
at_choice (suc n) f h (true ∷ bs) e = at_choice n (λ cs. f (true ∷ cs)) (and_parts _ _ h).0 bs (omega arith)
at_choice (suc n) f h (false ∷ bs) e = at_choice n (λ cs. f (false ∷ cs)) (and_parts _ _ h).1 bs (omega arith)

at_each : (p : ℕ → Bool) (xs : List ℕ) (q : ℕ) → list_all p xs ≡ true → list_any (λ x. x == q) xs ≡ true → p q ≡ true
at_each p [] q h s = absurd (false≢true s)
at_each p (x ∷ xs) q h s =
    let both = and_parts (p x) (list_all p xs) h in
    ⊎_elim (λ y. ap p (sym (eqb-true x q y)) ∙ both.0)
    (λ n. at_each p xs q both.1 (sym (ap (λ b. b || list_any (λ y. y == q) xs) n) ∙ s)) (cases_Bool (x == q))

answer_is : (o : Option (ℕ × ℕ)) (q a : ℕ) → is_answer o q a ≡ true → o ≡ Some (q, a)
answer_is None q a h = absurd (false≢true h)
answer_is (Some x) q a h =
    let both = and_parts (x.0 == q) (x.1 == a) h in
    λ i. Some (eqb-true x.0 q both.0 i, eqb-true x.1 a both.1 i)

pub no_row : (rows : List MaskRow) (kind : Kind) (q c : ℕ) → of_states rows kind ≡ true → is_state kind q ≡ false → first_fit rows q c ≡ None
no_row [] kind q c w s = refl
no_row (r ∷ rows) kind q c w s =
    let both = and_parts (is_state kind r.state) (of_states rows kind) w in
    ⊎_elim (λ y. absurd (false≢true (sym s ∙ ap (is_state kind) (sym (eqb-true r.state q y)) ∙ both.0)))
    (λ n. cond-false (fits q c r) (Some (r.next, r.action)) (first_fit rows q c) (and_left (r.state == q) (bit_and c r.care == r.value) n)
    ∙ no_row rows kind q c both.1 s) (cases_Bool (r.state == q))

-- rows that pass the test decide as the table does, in any state and under any choice
pub decides_each : (rows : List MaskRow) (kind : Kind) (named : List Bool → List Bool) (seen_by : List Bool → Conditions) (n : ℕ) →
    decides rows kind named seen_by n ≡ true → of_states rows kind ≡ true → (q : ℕ) (bs : List Bool) → length bs ≡ n →
    first_fit rows q (complemented (named bs)) ≡ decision kind q (seen_by bs)
decides_each rows kind named seen_by n f w q bs e =
    let c = seen_by bs in
    let o = first_fit rows q (complemented (named bs)) in
    ⊎_elim
    (λ y. answer_is o (next kind q c) (action kind q (next kind q c) c)
    (at_choice n (decides_at rows kind named seen_by q) (at_each (λ x. each_choice n (decides_at rows kind named seen_by x)) (states kind) q f y) bs e)
    ∙ sym (cond-true (is_state kind q) (Some (next kind q c, action kind q (next kind q c) c)) None y))
    (λ no. no_row rows kind q (complemented (named bs)) w no
    ∙ sym (cond-false (is_state kind q) (Some (next kind q c, action kind q (next kind q c) c)) None no))
    (cases_Bool (is_state kind q))

-- ---- Conditions on which each guard of a table agrees decide alike.

abbrev pub RulesAgree : List Rule → Conditions → Conditions → Type 0
RulesAgree [] c d = Unit {0}
RulesAgree (r ∷ rules) c d = (r.guard c ≡ r.guard d) × RulesAgree rules c d

abbrev pub RowAgrees : Row → Conditions → Conditions → Type 0
RowAgrees r c d = (r.restart c ≡ r.restart d) × RulesAgree r.rules c d

abbrev pub TableAgrees : List Row → Conditions → Conditions → Type 0
TableAgrees [] c d = Unit {0}
TableAgrees (r ∷ rows) c d = RowAgrees r c d × TableAgrees rows c d

rules_same : (rules : List Rule) (q : ℕ) (c d : Conditions) → RulesAgree rules c d → decided q rules c ≡ decided q rules d
rules_same [] q c d h = refl
rules_same (r ∷ rules) q c d h = ap (λ b. cond b r.next (decided q rules c)) h.0 ∙ ap (λ x. cond (r.guard d) r.next x) (rules_same rules q c d h.1)

row_agrees : (table : List Row) (q : ℕ) (c d : Conditions) → TableAgrees table c d → RowAgrees (row_at table q) c d
row_agrees [] q c d h = (refl, tt)
row_agrees (r ∷ rows) q c d h =
    ⊎_elim (λ y. subst (λ x. RowAgrees x c d) (sym (cond-true (r.state == q) r (row_at rows q) y)) h.0)
    (λ n. subst (λ x. RowAgrees x c d) (sym (cond-false (r.state == q) r (row_at rows q) n)) (row_agrees rows q c d h.1)) (cases_Bool (r.state == q))

next_same : (kind : Kind) (q : ℕ) (c d : Conditions) → c.pin 0 ≡ d.pin 0 → TableAgrees (block kind).rows c d → next kind q c ≡ next kind q d
unfolding next
next_same kind q c d active h =
    ap (λ b. cond (not b) 0 (cond (q == 0) (block kind).first (decided q (row_at (block kind).rows q).rules c))) active
    ∙ ap (λ x. cond (not (d.pin 0)) 0 (cond (q == 0) (block kind).first x))
    (rules_same (row_at (block kind).rows q).rules q c d (row_agrees (block kind).rows q c d h).1)

action_same : (kind : Kind) (q q' : ℕ) (c d : Conditions) → TableAgrees (block kind).rows c d → action kind q q' c ≡ action kind q q' d
action_same kind q q' c d h = ap (λ b. bit (not (q' == q && not b)) + 2 * bit (latches kind q q')) (row_agrees (block kind).rows q' c d h).0

pub decision_same : (kind : Kind) (q : ℕ) (c d : Conditions) → c.pin 0 ≡ d.pin 0 → TableAgrees (block kind).rows c d → decision kind q c ≡ decision kind q d
decision_same kind q c d active h =
    let e = next_same kind q c d active h in
    ap (λ x. cond (is_state kind q) (Some (x, action kind q x c)) None) e
    ∙ ap (λ a. cond (is_state kind q) (Some (next kind q d, a)) None) (action_same kind q (next kind q d) c d h)
