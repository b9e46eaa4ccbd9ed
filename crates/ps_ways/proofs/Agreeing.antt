-- How ways and a table that agree in each state agree in all.
use Rattle.std.proofs.Common.{◌≡◌, ◌∙◌, ℕ, Bool, true, false, List, [], ◌∷◌, map, refl, sym, ap, subst, ⊎_elim, ◌&&◌, ◌||◌}
use Rattle.std.specs.Prelude.{◌==◌}
use Rattle.std.specs.List.{list_all, list_any}
use Rattle.std.proofs.lemmas.Bool.{false≢true, cases_Bool, and_parts, cond-false, eqb-true, and_left}
use Rattle.ps_model.specs.Blocks.{block}
use Rattle.ps_model.specs.Stored.{states, is_state}
use Rattle.ps_model.specs.Table.{Conditions, Row, row_at}
use Rattle.ps_model.specs.declared.kind.Kind.{Kind}
use Rattle.ps_ways.specs.Tables.{AreThose, ways_of}
use Rattle.ps_ways.specs.Ways.{first_rule, holds, taken}
use Rattle.ps_ways.specs.declared.way.Way.{Way}

-- it is so of each of these
abbrev pub EachOf : (ℕ → Type 0) → List ℕ → Type 0
EachOf P [] = Unit {0}
EachOf P (x ∷ xs) = P x × EachOf P xs

at_each : (P : ℕ → Type 0) (xs : List ℕ) (q : ℕ) → EachOf P xs → list_any (λ x. x == q) xs ≡ true → P q
at_each P [] q h s = absurd (false≢true s)
at_each P (x ∷ xs) q h s =
    ⊎_elim (λ y. subst P (eqb-true x q y) h.0)
    (λ n. at_each P xs q h.1 (sym (ap (λ b. b || list_any (λ y. y == q) xs) n) ∙ s)) (cases_Bool (x == q))

-- every way is of a state of the kind
abbrev pub of_states : List Way → Kind → Bool
of_states ways kind = list_all (λ w. is_state kind w.state) ways

none_taken : (ways : List Way) (kind : Kind) (q : ℕ) (c : Conditions) → of_states ways kind ≡ true → is_state kind q ≡ false →
    taken ways q c ≡ 0
none_taken [] kind q c w s = refl
none_taken (r ∷ ways) kind q c w s =
    let both = and_parts (is_state kind r.state) (of_states ways kind) w in
    ⊎_elim (λ y. absurd (false≢true (sym s ∙ ap (is_state kind) (sym (eqb-true r.state q y)) ∙ both.0)))
    (λ n. cond-false (r.state == q && holds r c) r.number (taken ways q c) (and_left (r.state == q) (holds r c) n)
    ∙ none_taken ways kind q c both.1 s) (cases_Bool (r.state == q))

no_rules : (rows : List Row) (q : ℕ) (c : Conditions) → list_any (λ x. x == q) (map (λ (r : Row). r.state) rows) ≡ false →
    first_rule 1 (row_at rows q).rules c ≡ 0
no_rules [] q c h = refl
no_rules (r ∷ rows) q c h =
    ⊎_elim (λ y. absurd (false≢true (sym h ∙ ap (λ b. b || list_any (λ x. x == q) (map (λ (x : Row). x.state) rows)) y)))
    (λ n. ap (λ (x : Row). first_rule 1 x.rules c) (cond-false (r.state == q) r (row_at rows q) n)
    ∙ no_rules rows q c (sym (ap (λ b. b || list_any (λ x. x == q) (map (λ (x : Row). x.state) rows)) n) ∙ h)) (cases_Bool (r.state == q))

no_rows : (kind : Kind) (q : ℕ) → is_state kind q ≡ false → list_any (λ x. x == q) (map (λ (r : Row). r.state) (block kind).rows) ≡ false
no_rows kind q s =
    ⊎_elim (λ y. absurd (false≢true (sym s ∙ ap (λ b. b || list_any (λ x. x == q) (map (λ (r : Row). r.state) (block kind).rows)) y)))
    (λ n. sym (ap (λ b. b || list_any (λ x. x == q) (map (λ (r : Row). r.state) (block kind).rows)) n) ∙ s) (cases_Bool (0 == q))

-- ways that are those of the table in each state are so at any code
pub in_all : (kind : Kind) → of_states (ways_of kind) kind ≡ true → EachOf (AreThose kind) (states kind) → (q : ℕ) → AreThose kind q
in_all kind w each q =
    ⊎_elim (λ y. at_each (AreThose kind) (states kind) q each y)
    (λ n c. none_taken (ways_of kind) kind q c w n ∙ sym (no_rules (block kind).rows q c (no_rows kind q n))) (cases_Bool (is_state kind q))
