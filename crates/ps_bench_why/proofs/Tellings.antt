-- Lines that are told, one after another.
use Rattle.std.proofs.Common.{◌≡◌, ◌⊎◌, ◌∙◌, ◌<◌, ◌≤◌, ◌+◌, ◌++◌, ℕ, Bool, true, false, List, [], ◌∷◌, length, subst, sym, ap, inl, inr, map, take, append_assoc, append-nil, arith}
use Rattle.std.specs.Prelude.{Contains, Some, slice_get, slice_index_or}
use Rattle.std.specs.List.{AllByRecursion, range_with_len}
use Rattle.std.proofs.Math.ListN.{set}
use Rattle.std.proofs.Math.Seq.{take-append_seam}
use Rattle.std.proofs.lemmas.Bool.{cases_lt}
use Rattle.std.proofs.lemmas.List.{get_or-set_other, get_or-set_same, length-set, take-append-le}
use Rattle.std.proofs.lemmas.List.FromFn.{get_or-map-range_with_len, length-map-range_with_len}
use Rattle.std.proofs.lemmas.List.Elements.{Contains-append_left, Contains-push, Contains-push_cases}
use Rattle.std.proofs.lemmas.Option.{get_or_from_slice_get, same_Some, slice_get-get_or, slice_get_within}
use Rattle.ps_why.proofs.Told.{push_at, push_before, push_cases}
use Rattle.ps_why.specs.declared.explaining.Explanation.{Explanation}
use Rattle.ps_bench_why.specs.Pending.{AddsChildren, IsChild, IsOfFact, IsTelling, KeepsNotes}
use Rattle.ps_bench_why.specs.Trees.{AreLinesOf, IsReasonOf, MayFollow, next_line}
use Rattle.ps_why.specs.Below.{first_line}
use Rattle.ps_why.specs.declared.lines.Line.{Line}

-- ---- What is noted.

-- what stands among elements stands at a place
place_of : {X : Type 0} (xs : List X) (x : X) → (h : Contains xs x) → slice_get xs h.0 ≡ Some x
place_of xs x h = slice_get-get_or xs h.0 x h.1 ∙ ap Some h.2

true_is : (b : Bool) → Some b ≡ Some true → b ≡ true
true_is b h = same_Some b true h

pub keeps_noted : (told : List Bool) (k : ℕ) → KeepsNotes told (set told k true)
keeps_noted told k n was =
    let within = slice_get_within told n true was in
    let longer : n < length (set told k true) = omega (arith, within, length-set told k true) in
    slice_get-get_or (set told k true) n false longer
    ∙ ap Some (elim (cases_lt n k) [
      | inl less ↦ get_or-set_other told k n true false (λ e. omega (arith, e, less)) ∙ get_or_from_slice_get told n true false was
      | inr most ↦
          elim (cases_lt k n) [
            | inl more ↦ get_or-set_other told k n true false (λ e. omega (arith, e, more)) ∙ get_or_from_slice_get told n true false was
            | inr least ↦
                let same : k ≡ n = omega (arith, most, least) in
                subst (λ m. slice_index_or (set told k true) m false ≡ true) same
                (get_or-set_same told k true false (omega (arith, same, within)))
          ]
    ])

pub now_noted : (told : List Bool) (k : ℕ) → k < length told → slice_get (set told k true) k ≡ Some true
now_noted told k within =
    slice_get-get_or (set told k true) k false (omega (arith, within, length-set told k true))
    ∙ ap Some (get_or-set_same told k true false within)

-- what is noted was noted before, or just now
noted_cases : (told : List Bool) (k n : ℕ) → slice_get (set told k true) n ≡ Some true → (slice_get told n ≡ Some true) ⊎ (n ≡ k)
noted_cases told k n h =
    let within : n < length told = omega (arith, slice_get_within (set told k true) n true h, length-set told k true) in
    let is = get_or_from_slice_get (set told k true) n true false h in
    elim (cases_lt n k) [
      | inl less ↦
          inl (slice_get-get_or told n false within ∙ ap Some (sym (get_or-set_other told k n true false (λ e. omega (arith, e, less))) ∙ is))
      | inr most ↦
          elim (cases_lt k n) [
            | inl more ↦
                inl (slice_get-get_or told n false within ∙ ap Some (sym (get_or-set_other told k n true false (λ e. omega (arith, e, more))) ∙ is))
            | inr least ↦ inr (omega (arith, most, least))
          ]
    ]

-- ---- A line more.

module _ (e : Explanation) where
  -- what may follow lines still may where one more stands that is as deep
  follow_more : (lines : List Line) (x y : Line) → y.depth ≤ x.depth → MayFollow e lines y → MayFollow e (lines ++ x ∷ []) y
  follow_more lines x y deep (inl left) = inl left
  follow_more lines x y deep (inr below) = inr (record {
    place = below.place;
    above = below.above;
    at = push_before lines x below.place below.above below.at;
    deeper = below.deeper;
    reason = below.reason;
    between = λ p other behind at.
        elim (push_cases lines x p other at) [
          | inl before ↦ below.between p other behind before
          | inr last ↦ omega (arith, deep, below.deeper, ap (λ (l : Line). l.depth) last.1)
        ];
  })

  -- a reason of the fact of the last line may follow it
  pub follow_last : (lines : List Line) (x y : Line) → y.depth ≡ x.depth + 1 → IsReasonOf e x.fact y.fact → MayFollow e (lines ++ x ∷ []) y
  follow_last lines x y deeper reason = inr (record {
    place = length lines;
    above = x;
    at = push_at lines x;
    deeper = deeper;
    reason = reason;
    between = λ p other behind at.
        elim (push_cases lines x p other at) [
          | inl before ↦ absurd (omega (arith, behind, slice_get_within lines p other before))
          | inr last ↦ absurd (omega (arith, behind, last.0))
        ];
  })

  module _ (told : List Bool) (lines pending : List Line) where
    -- the pending lines are at most as deep as the last one
    pub at_most : (x : Line) → IsTelling e told lines (pending ++ x ∷ []) → (y : Line) → Contains pending y → y.depth ≤ x.depth
    at_most x t y c =
        t.deepest c.0 (length pending) y x c.1 (push_before pending x c.0 y (place_of pending y c)) (push_at pending x)

    -- the last one is left out
    pub telling_less : (x : Line) → IsTelling e told lines (pending ++ x ∷ []) → IsTelling e told lines pending
    telling_less x t = record {
      size = t.size;
      noted = t.noted;
      notes = t.notes;
      once = t.once;
      follows = t.follows;
      hang = λ y c. t.hang y (Contains-append_left pending (x ∷ []) y c);
      of = λ y c. t.of y (Contains-append_left pending (x ∷ []) y c);
      deepest = λ i j a b less at at'. t.deepest i j a b less (push_before pending x i a at) (push_before pending x j b at');
    }

    -- one more is pending
    pub telling_pushed : (y : Line) → IsTelling e told lines pending → MayFollow e lines y → IsOfFact e y →
        ((a : Line) → Contains pending a → a.depth ≤ y.depth) → IsTelling e told lines (pending ++ y ∷ [])
    telling_pushed y t follows of deep = record {
      size = t.size;
      noted = t.noted;
      notes = t.notes;
      once = t.once;
      follows = t.follows;
      hang = λ a c.
          elim (Contains-push_cases pending y a c) [
            | inl was ↦ t.hang a was
            | inr is ↦ subst (MayFollow e lines) is follows
          ];
      of = λ a c.
          elim (Contains-push_cases pending y a c) [
            | inl was ↦ t.of a was
            | inr is ↦ subst (IsOfFact e) is of
          ];
      deepest = λ i j a b less at at'. deepest_by i j a b less (push_cases pending y i a at) (push_cases pending y j b at');
    }
      where
        deepest_by : (i j : ℕ) (a b : Line) → i < j → (slice_get pending i ≡ Some a) ⊎ ((i ≡ length pending) × (y ≡ a)) →
            (slice_get pending j ≡ Some b) ⊎ ((j ≡ length pending) × (y ≡ b)) → a.depth ≤ b.depth
        deepest_by i j a b less (inl at) (inl at') = t.deepest i j a b less at at'
        deepest_by i j a b less (inl at) (inr last) =
            let here : Contains pending a = (i, slice_get_within pending i a at, get_or_from_slice_get pending i a a at) in
            omega (arith, deep a here, ap (λ (l : Line). l.depth) last.1)
        deepest_by i j a b less (inr first) (inl at') = absurd (omega (arith, less, first.0, slice_get_within pending j b at'))
        deepest_by i j a b less (inr first) (inr last) = absurd (omega (arith, less, first.0, last.0))

    -- the last one is told
    pub telling_more : (x : Line) → IsTelling e told lines (pending ++ x ∷ []) → slice_get told x.fact ≡ Some false →
        IsTelling e (set told x.fact true) (lines ++ x ∷ []) pending
    telling_more x t untold = record {
      size = length-set told x.fact true ∙ t.size;
      noted = λ n h.
          elim (noted_cases told x.fact n h) [
            | inl was ↦ let w = t.noted n was in (w.0, Contains-append_left lines (x ∷ []) w.0 w.1, w.2)
            | inr is ↦ (x, Contains-push lines x, sym is)
          ];
      notes = λ y c.
          elim (Contains-push_cases lines x y c) [
            | inl was ↦ keeps_noted told x.fact y.fact (t.notes y was)
            | inr is ↦
                subst (λ (l : Line). slice_get (set told x.fact true) l.fact ≡ Some true) is
                (now_noted told x.fact (slice_get_within told x.fact false untold))
          ];
      once = λ p q a b at at' same. once_by p q a b same (push_cases lines x p a at) (push_cases lines x q b at');
      follows = λ p y at. follows_by p y (push_cases lines x p y at);
      hang = λ y c. follow_more lines x y (at_most x t y c) (t.hang y (Contains-append_left pending (x ∷ []) y c));
      of = λ y c. t.of y (Contains-append_left pending (x ∷ []) y c);
      deepest = λ i j a b less at at'. t.deepest i j a b less (push_before pending x i a at) (push_before pending x j b at');
    }
      where
        -- a line that is told is of another fact
        other : (p : ℕ) (a : Line) → slice_get lines p ≡ Some a → a.fact ≡ x.fact → ⊥
        other p a at same =
            let here : Contains lines a = (p, slice_get_within lines p a at, get_or_from_slice_get lines p a a at) in
            let noted : slice_get told x.fact ≡ Some true = ap (slice_get told) (sym same) ∙ t.notes a here in
            let no : false ≡ true = same_Some false true (sym untold ∙ noted) in
            cc

        once_by : (p q : ℕ) (a b : Line) → a.fact ≡ b.fact → (slice_get lines p ≡ Some a) ⊎ ((p ≡ length lines) × (x ≡ a)) →
            (slice_get lines q ≡ Some b) ⊎ ((q ≡ length lines) × (x ≡ b)) → p ≡ q
        once_by p q a b same (inl at) (inl at') = t.once p q a b at at' same
        once_by p q a b same (inl at) (inr last) = absurd (other p a at (same ∙ ap (λ (l : Line). l.fact) (sym last.1)))
        once_by p q a b same (inr first) (inl at') = absurd (other q b at' (sym same ∙ ap (λ (l : Line). l.fact) (sym first.1)))
        once_by p q a b same (inr first) (inr last) = first.0 ∙ sym last.0

        follows_by : (p : ℕ) (y : Line) → (slice_get lines p ≡ Some y) ⊎ ((p ≡ length lines) × (x ≡ y)) → MayFollow e (take p (lines ++ x ∷ [])) y
        follows_by p y (inl at) =
            let within : p ≤ length lines = omega (arith, slice_get_within lines p y at) in
            subst (λ ls. MayFollow e ls y) (sym (take-append-le p lines (x ∷ []) within)) (t.follows p y at)
        follows_by p y (inr last) =
            let before : take p (lines ++ x ∷ []) ≡ lines = ap (λ n. take n (lines ++ x ∷ [])) last.0 ∙ take-append_seam lines (x ∷ []) in
            subst (λ ls. MayFollow e ls y) (sym before)
            (subst (MayFollow e lines) last.1 (t.hang x (Contains-push pending x)))

  -- ---- The reasons of a fact.

  all_pushed : {X : Type 0} (P : X → Type 0) (xs : List X) (y : X) → AllByRecursion P xs → P y → AllByRecursion P (xs ++ y ∷ [])
  all_pushed P [] y all last = (last, tt)
  all_pushed P (x ∷ xs) y all last = (all.0, all_pushed P xs y all.1 last)

  pub no_children : (x : Line) (pending : List Line) → AddsChildren e x pending pending
  no_children x pending = ([], sym (append-nil pending), tt)

  pub child_more : (x : Line) (old mid new : List Line) (y : Line) → AddsChildren e x old mid → new ≡ mid ++ y ∷ [] → IsChild e x y →
      AddsChildren e x old new
  child_more x old mid new y added is child = (
    added.0 ++ y ∷ [],
    is ∙ ap (λ ls. ls ++ y ∷ []) added.1 ∙ append_assoc old added.0 (y ∷ []),
    all_pushed (IsChild e x) added.0 y added.2 child,
  )

  -- reasons of the last line are pending, none of which is less deep than those before
  pub telling_children : (told : List Bool) (lines : List Line) (x : Line) (children pending : List Line) →
      IsTelling e told (lines ++ x ∷ []) pending → AllByRecursion (IsChild e x) children →
      ((a : Line) → Contains pending a → a.depth ≤ x.depth + 1) → IsTelling e told (lines ++ x ∷ []) (pending ++ children)
  telling_children told lines x [] pending t all deep = subst (IsTelling e told (lines ++ x ∷ [])) (sym (append-nil pending)) t
  telling_children told lines x (y ∷ children) pending t all deep =
      let child = all.0 in
      let here = telling_pushed told (lines ++ x ∷ []) pending y t (follow_last lines x y child.deeper child.reason) child.of
      (λ a c. omega (arith, deep a c, child.deeper)) in
      let deeper : (a : Line) → Contains (pending ++ y ∷ []) a → a.depth ≤ x.depth + 1 = λ a c.
      elim (Contains-push_cases pending y a c) [
        | inl was ↦ deep a was
        | inr is ↦ omega (arith, child.deeper, ap (λ (l : Line). l.depth) is)
      ] in
      subst (IsTelling e told (lines ++ x ∷ [])) (append_assoc pending (y ∷ []) children)
      (telling_children told lines x children (pending ++ y ∷ []) here all.1 deeper)

  -- ---- From the first line to the last.

  pub telling_none : (told : List Bool) → length told ≡ length e.facts.items → ((n : ℕ) → slice_get told n ≡ Some true → ⊥) →
      IsTelling e told [] []
  telling_none told size none = record {
    size = size;
    noted = λ n h. absurd (none n h);
    notes = λ y c. absurd (omega (arith, c.1));
    once = λ p q a b at at' same. absurd (omega (arith, slice_get_within [] p a at));
    follows = λ p y at. absurd (omega (arith, slice_get_within [] p y at));
    hang = λ y c. absurd (omega (arith, c.1));
    of = λ y c. absurd (omega (arith, c.1));
    deepest = λ i j a b less at at'. absurd (omega (arith, slice_get_within [] i a at));
  }

  pub telling_all : (told : List Bool) (lines : List Line) → IsTelling e told lines [] →
      ((n : ℕ) → n < length e.facts.items → slice_get told n ≡ Some true) → ((p : ℕ) → slice_get lines p ≡ next_line e (take p lines)) → AreLinesOf e lines
  telling_all told lines t all next = record {
    each = λ n within. t.noted n (all n within);
    of = λ y c. omega (arith, slice_get_within told y.fact true (t.notes y c), t.size);
    once = t.once;
    follows = t.follows;
    next = next;
  }

  -- a line is told, and its reasons are pending
  pub telling_line : (told told' : List Bool) (lines lines' pending pending' : List Line) (x : Line) →
      IsTelling e told lines (pending ++ x ∷ []) → slice_index_or told x.fact false ≡ false → told' ≡ set told x.fact true →
      lines' ≡ lines ++ x ∷ [] → AddsChildren e x pending pending' → IsTelling e told' lines' pending'
  telling_line told told' lines lines' pending pending' x t off told_is lines_is added =
      let within : x.fact < length told = omega (arith, t.of x (Contains-push pending x), t.size) in
      let untold : slice_get told x.fact ≡ Some false = slice_get-get_or told x.fact false within ∙ ap Some off in
      let deep : (a : Line) → Contains pending a → a.depth ≤ x.depth + 1 = λ a c. omega (arith, at_most told lines pending x t a c) in
      let here = telling_children (set told x.fact true) lines x added.0 pending (telling_more told lines pending x t untold) added.2 deep in
      subst (λ bs. IsTelling e bs lines' pending') (sym told_is)
      (subst (λ ls. IsTelling e (set told x.fact true) ls pending') (sym lines_is)
      (subst (IsTelling e (set told x.fact true) (lines ++ x ∷ [])) (sym added.1) here))

  -- the fact of a pending line is one of those that can be noted
  pub within_notes : (told : List Bool) (lines pending : List Line) (x : Line) → IsTelling e told lines (pending ++ x ∷ []) → x.fact < length told
  within_notes told lines pending x t = omega (arith, t.of x (Contains-push pending x), t.size)

  -- the line of a fact that is not told below any other
  pub telling_first : (told : List Bool) (lines pending : List Line) (x : Line) → IsTelling e told lines [] → pending ≡ [] → x.depth ≡ 0 → x.fact < length e.facts.items →
      IsTelling e told lines (pending ++ x ∷ [])
  telling_first told lines pending x t none left of =
      subst (λ ls. IsTelling e told lines (ls ++ x ∷ [])) (sym none) (telling_pushed told lines [] x t (inl left) of (λ a c. absurd (omega (arith, c.1))))

-- the lines at the left, one for each of so many facts
pub first_at : (lines : List Line) (count i : ℕ) (x : Line) → lines ≡ map first_line (range_with_len 0 count) → i < length lines →
    slice_index_or lines i x ≡ first_line i
first_at lines count i x is within =
    let below : i < count = omega (arith, within, ap length is, length-map-range_with_len first_line 0 count) in
    ap (λ ls. slice_index_or ls i x) is ∙ get_or-map-range_with_len first_line 0 count i i x below (omega arith)
