-- Each line is the one that comes after those in front of it.
use Rattle.std.proofs.Common.{◌≡◌, ◌⊎◌, ◌∙◌, ◌<◌, ◌≤◌, ◌+◌, ◌-◌, ◌++◌, ℕ, Bool, true, false, not, List, [], ◌∷◌, length, drop, refl, subst, sym, ap, inl, inr, map, reverse, take, append_assoc, arith}
use Rattle.std.specs.Prelude.{◌==◌, Contains, Some, None, cond, filter, find, flat_map, slice_get, slice_index_or}
use Rattle.std.specs.List.{list_any, range_with_len}
use Rattle.std.specs.Option.{option_map_or}
use Rattle.std.proofs.Math.Seq.{take-append_seam}
use Rattle.std.proofs.lemmas.Bool.{and_from, and_parts, and_right, cases_Bool, cases_lt, cond-true, cond-false, eq-eqb, eqb-true, false≢true, false_from_ne_true, lt-ltb}
use Rattle.std.proofs.lemmas.Grind.{common_steps}
use Rattle.std.proofs.lemmas.List.{get_or_default, length_push, reverse-append, reverse-reverse, take-append-le, take_all}
use Rattle.std.proofs.lemmas.List.Elements.{Contains-push, filter-append}
use Rattle.std.proofs.lemmas.Option.{get_or_from_slice_get, same_Some, slice_get-get_or, slice_get_past, slice_get_within}
use Rattle.ps_model.proofs.Once.{any_at, place_of}
use Rattle.ps_model.proofs.Rest.{rest_at}
use Rattle.ps_why.proofs.Told.{push_at, push_before}
use Rattle.ps_why.specs.Below.{first_line, line_below}
use Rattle.ps_why.specs.declared.explaining.Explanation.{Explanation}
use Rattle.ps_why.specs.declared.explaining.Reasons.{Reasons}
use Rattle.ps_why.specs.declared.lines.Line.{Line}
use Rattle.ps_bench_why.specs.Pending.{IsInOrder, IsTelling, KeepsOrder, children_of, tells_fact}
use Rattle.ps_bench_why.specs.Trees.{candidates, is_new, lines_below, next_line}

-- ---- What passes.

-- what passes two tests passes the narrower one
filter_filter : {X : Type 0} (p q : X → Bool) → ((x : X) → p x ≡ true → q x ≡ true) → (xs : List X) → filter p (filter q xs) ≡ filter p xs
filter_filter p q narrower [] = refl
filter_filter p q narrower (x ∷ xs) =
    elim (cases_Bool (q x)) [
      | inl on ↦
          ap (filter p) (cond-true (q x) (x ∷ filter q xs) (filter q xs) on)
          ∙ ap (λ l. cond (p x) (x ∷ l) l) (filter_filter p q narrower xs)
      | inr off ↦
          let no : p x ≡ false = false_from_ne_true (p x) (λ on. false≢true (sym off ∙ narrower x on)) in
          ap (filter p) (cond-false (q x) (x ∷ filter q xs) (filter q xs) off)
          ∙ filter_filter p q narrower xs
          ∙ sym (cond-false (p x) (x ∷ filter p xs) (filter p xs) no)
    ]

-- the first that passes is the first of those that pass
find_some : {X : Type 0} (p : X → Bool) (xs : List X) (y : X) (ys : List X) → filter p xs ≡ y ∷ ys → find p xs ≡ Some y
find_some p [] y ys h = absurd (let clash = h in cc)
find_some p (x ∷ xs) y ys h =
    elim (cases_Bool (p x)) [
      | inl on ↦
          let here : x ∷ filter p xs ≡ y ∷ ys = sym (cond-true (p x) (x ∷ filter p xs) (filter p xs) on) ∙ h in
          let same : x ≡ y = cc in
          cond-true (p x) (Some x) (find p xs) on ∙ ap Some same
      | inr off ↦
          cond-false (p x) (Some x) (find p xs) off
          ∙ find_some p xs y ys (sym (cond-false (p x) (x ∷ filter p xs) (filter p xs) off) ∙ h)
    ]

find_none : {X : Type 0} (p : X → Bool) (xs : List X) → filter p xs ≡ [] → find p xs ≡ None
find_none p [] h = refl
find_none p (x ∷ xs) h =
    elim (cases_Bool (p x)) [
      | inl on ↦ absurd (let clash = sym (cond-true (p x) (x ∷ filter p xs) (filter p xs) on) ∙ h in cc)
      | inr off ↦
          cond-false (p x) (Some x) (find p xs) off
          ∙ find_none p xs (sym (cond-false (p x) (x ∷ filter p xs) (filter p xs) off) ∙ h)
    ]

reverse_push : (xs : List Line) (x : Line) → reverse (xs ++ x ∷ []) ≡ x ∷ reverse xs
reverse_push xs x = reverse-append xs (x ∷ [])

reverse_cons : (x : Line) (xs : List Line) → reverse (x ∷ xs) ≡ reverse xs ++ x ∷ []
reverse_cons x xs = reverse-append (x ∷ []) xs

-- ---- What is new.

module _ (e : Explanation) (told : List Bool) (lines pending : List Line) (x : Line) (t : IsTelling e told lines (pending ++ x ∷ [])) where
  abbrev tells_it : Line → Bool
  tells_it line = line.fact == x.fact

  -- what is told is not new
  pub old_line : slice_index_or told x.fact false ≡ true → is_new e lines x ≡ false
  old_line on =
      let within : x.fact < length told = omega (arith, t.of x (Contains-push pending x), t.size) in
      let line = t.noted x.fact (slice_get-get_or told x.fact false within ∙ ap Some on) in
      let at = slice_get-get_or lines line.1.0 line.0 line.1.1 ∙ ap Some line.1.2 in
      and_right (tells_fact e x) (not (list_any tells_it lines)) (ap not (any_at tells_it lines line.1.0 line.0 at (eq-eqb line.0.fact x.fact line.2)))

  -- what is not told is new
  pub new_line : slice_index_or told x.fact false ≡ false → is_new e lines x ≡ true
  new_line off =
      let one = t.of x (Contains-push pending x) in
      let within : x.fact < length told = omega (arith, one, t.size) in
      let none : list_any tells_it lines ≡ false = false_from_ne_true (list_any tells_it lines) (λ on.
      let w = place_of tells_it lines on in
      let among : Contains lines w.1 = (w.0, slice_get_within lines w.0 w.1 w.2, get_or_from_slice_get lines w.0 w.1 w.1 w.2) in
      let noted = t.notes w.1 among in
      let same : w.1.fact ≡ x.fact = eqb-true w.1.fact x.fact w.3 in
      let said : Some false ≡ Some true = sym (slice_get-get_or told x.fact false within ∙ ap Some off) ∙ sym (ap (slice_get told) same) ∙ noted in
      false≢true (same_Some false true said)) in
      and_from (tells_fact e x) (not (list_any tells_it lines)) (lt-ltb x.fact (length e.facts.items) one) (ap not none)

-- ---- One line more.

module _ (e : Explanation) (lines pending : List Line) (x : Line) where
  -- a line that is not new is left out
  pub order_less : is_new e lines x ≡ false → KeepsOrder e lines (pending ++ x ∷ []) lines pending
  order_less off rest h = record {
    coming =
        sym (cond-false (is_new e lines x) (x ∷ filter (is_new e lines) (reverse pending ++ rest)) (filter (is_new e lines) (reverse pending ++ rest)) off)
        ∙ sym (ap (λ l. filter (is_new e lines) (l ++ rest)) (reverse_push pending x))
        ∙ h.coming;
    next = h.next;
  }

  -- with the line more
  abbrev more : List Line
  more = lines ++ x ∷ []

  -- any line tells the fact of one of these, and of those with one more
  any_more : (y : Line) → list_any (λ (told : Line). told.fact == y.fact) lines ≡ true → list_any (λ (told : Line). told.fact == y.fact) more ≡ true
  any_more y on =
      let p = λ (told : Line). told.fact == y.fact in
      let w = place_of p lines on in
      any_at p more w.0 w.1 (push_before lines x w.0 w.1 w.2) w.3

  still_new : (y : Line) → is_new e more y ≡ true → is_new e lines y ≡ true
  still_new y on =
      let p = λ (told : Line). told.fact == y.fact in
      let both = and_parts (tells_fact e y) (not (list_any p more)) on in
      let none : list_any p lines ≡ false = false_from_ne_true (list_any p lines) (λ was. false≢true (sym (ap not (any_more y was)) ∙ both.1)) in
      and_from (tells_fact e y) (not (list_any p lines)) both.0 (ap not none)

  told_now : is_new e more x ≡ false
  told_now =
      let p = λ (told : Line). told.fact == x.fact in
      and_right (tells_fact e x) (not (list_any p more)) (ap not (any_at p more (length lines) x (push_at lines x) (eq-eqb x.fact x.fact refl)))

  candidates_more : candidates e more ≡ lines_below e x ++ candidates e lines
  candidates_more =
      let firsts = map first_line (range_with_len 0 (length e.facts.items)) in
      ap (λ l. flat_map (lines_below e) l ++ firsts) (reverse_push lines x)
      ∙ append_assoc (lines_below e x) (flat_map (lines_below e) (reverse lines)) firsts

  next_more : (rest : List Line) → is_new e lines x ≡ true → IsInOrder e lines (pending ++ x ∷ []) rest → (p : ℕ) → (p < length lines) ⊎ (length lines ≤ p) → p < length more →
      slice_get more p ≡ next_line e (take p more)
  next_more rest on h p (inl before) below =
      let one : slice_get lines p ≡ Some (slice_index_or lines p x) = slice_get-get_or lines p x before in
      push_before lines x p (slice_index_or lines p x) one ∙ sym one ∙ h.next p before
      ∙ sym (ap (next_line e) (take-append-le p lines (x ∷ []) (omega (arith, before))))
  next_more rest on h p (inr last) below =
      let same : length lines ≡ p = omega (arith, last, below, length_more) in
      let N = is_new e lines in
      let first : filter N (candidates e lines) ≡ x ∷ filter N (reverse pending ++ rest) =
      sym h.coming ∙ ap (λ l. filter N (l ++ rest)) (reverse_push pending x) ∙ cond-true (N x) (x ∷ filter N (reverse pending ++ rest)) (filter N (reverse pending ++ rest)) on in
      subst (λ k. slice_get more k ≡ next_line e (take k more)) same
      (push_at lines x ∙ sym (ap (next_line e) (take-append_seam lines (x ∷ [])) ∙ find_some N (candidates e lines) x (filter N (reverse pending ++ rest)) first))
    where
      length_more : length more ≡ length lines + 1
      length_more = length_push lines x

  -- a line that is new is told, and those below it are pending
  pub order_more : is_new e lines x ≡ true → KeepsOrder e lines (pending ++ x ∷ []) more (pending ++ children_of e x)
  order_more on rest h = record {
    coming = coming;
    next = λ p below. next_more rest on h p (cases_lt p (length lines)) below;
  }
    where
      coming : filter (is_new e more) (reverse (pending ++ children_of e x) ++ rest) ≡ filter (is_new e more) (candidates e more)
      coming =
          let N = is_new e lines in
          let M = is_new e more in
          let B = filter (tells_fact e) (lines_below e x) in
          let others = reverse pending ++ rest in
          let tells : (y : Line) → M y ≡ true → tells_fact e y ≡ true = λ y new. (and_parts (tells_fact e y) (not (list_any (λ (told : Line). told.fact == y.fact) more)) new).0 in
          let left : filter M others ≡ filter M (candidates e lines) =
          sym (cond-false (M x) (x ∷ filter M others) (filter M others) told_now)
          ∙ sym (filter_filter M N still_new (x ∷ others))
          ∙ sym (ap (λ l. filter M (filter N (l ++ rest))) (reverse_push pending x))
          ∙ ap (filter M) h.coming
          ∙ filter_filter M N still_new (candidates e lines) in
          ap (λ l. filter M (l ++ rest)) (reverse-append pending (children_of e x) ∙ ap (λ l. l ++ reverse pending) (reverse-reverse B))
          ∙ ap (filter M) (append_assoc B (reverse pending) rest)
          ∙ filter-append M B others
          ∙ ap (λ l. l ++ filter M others) (filter_filter M (tells_fact e) tells (lines_below e x))
          ∙ ap (λ l. filter M (lines_below e x) ++ l) left
          ∙ sym (filter-append M (lines_below e x) (candidates e lines))
          ∙ sym (ap (filter M) candidates_more)

-- ---- The beginning and the end.

pub order_none : (e : Explanation) (firsts : List Line) → firsts ≡ map first_line (range_with_len 0 (length e.facts.items)) → IsInOrder e [] [] firsts
order_none e firsts is = record {
  coming = ap (filter (is_new e [])) is;
  next = λ p below. absurd (omega (arith, below));
}

-- the next line at the left is pending
pub order_first : (e : Explanation) (lines : List Line) (x : Line) (rest all : List Line) → all ≡ x ∷ rest → IsInOrder e lines [] all → IsInOrder e lines (x ∷ []) rest
order_first e lines x rest all is h = record { coming = sym (ap (filter (is_new e lines)) is) ∙ h.coming; next = h.next }

pub order_all : (e : Explanation) (lines rest : List Line) → rest ≡ [] → IsInOrder e lines [] rest → (p : ℕ) → slice_get lines p ≡ next_line e (take p lines)
order_all e lines rest none h p =
    elim (cases_lt p (length lines)) [
      | inl before ↦ h.next p before
      | inr past ↦
          slice_get_past lines p past
          ∙ sym (ap (next_line e) (take_all p lines past)
          ∙ find_none (is_new e lines) (candidates e lines) (sym h.coming ∙ ap (filter (is_new e lines)) none))
    ]

-- ---- The lines below one.

module _ (e : Explanation) (x : Line) where
  -- the reasons from one on are pending, the last one first
  abbrev pub reversed_from : List ℕ → (n : ℕ) → List Line
  reversed_from facts n = reverse (filter (tells_fact e) (map (line_below x) (drop n facts)))

  pub none_from : (facts : List ℕ) (n : ℕ) → length facts ≤ n → reversed_from facts n ≡ []
  none_from facts n past =
      let end : drop n facts ≡ [] = grind (arith, common_steps) in
      ap (λ l. reverse (filter (tells_fact e) (map (line_below x) l))) end

  pub all_from : (facts : List ℕ) (n : ℕ) → n ≡ 0 → option_map_or (λ (r : Reasons). r.facts.items) (slice_get e.reasons.items x.fact) [] ≡ facts →
      reversed_from facts n ≡ children_of e x
  all_from facts n none is =
      ap (reversed_from facts) none ∙ sym (ap (λ l. reverse (filter (tells_fact e) (map (line_below x) l))) is)

  -- a line whose fact has no reasons has none below it
  pub past_reasons : length e.reasons.items ≤ x.fact → children_of e x ≡ []
  past_reasons past =
      ap (λ o. reverse (filter (tells_fact e) (map (line_below x) (option_map_or (λ (r : Reasons). r.facts.items) o [])))) (slice_get_past e.reasons.items x.fact past)

  module _ (facts : List ℕ) (n : ℕ) (within : n < length facts) where
    abbrev here : Line
    here = line_below x (slice_index_or facts n 0)

    rest_is : drop n facts ≡ slice_index_or facts n 0 ∷ drop (n + 1) facts
    rest_is = rest_at facts n (slice_index_or facts n 0) within (get_or_default facts n 0 (slice_index_or facts n 0) within)

    all_of : reversed_from facts n ≡ reverse (cond (tells_fact e here) (here ∷ filter (tells_fact e) (map (line_below x) (drop (n + 1) facts))) (filter (tells_fact e) (map (line_below x) (drop (n + 1) facts))))
    all_of = ap (λ l. reverse (filter (tells_fact e) (map (line_below x) l))) rest_is

    pub child_here : tells_fact e here ≡ true → reversed_from facts n ≡ reversed_from facts (n + 1) ++ here ∷ []
    child_here on =
        let later = filter (tells_fact e) (map (line_below x) (drop (n + 1) facts)) in
        all_of ∙ ap reverse (cond-true (tells_fact e here) (here ∷ later) later on) ∙ reverse_cons here later

    pub child_none : tells_fact e here ≡ false → reversed_from facts n ≡ reversed_from facts (n + 1)
    child_none off =
        let later = filter (tells_fact e) (map (line_below x) (drop (n + 1) facts)) in
        all_of ∙ ap reverse (cond-false (tells_fact e here) (here ∷ later) later off)
