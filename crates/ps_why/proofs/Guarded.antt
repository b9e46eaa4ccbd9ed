-- What is told of the guards of a state decides which state comes after it.
use Rattle.std.proofs.Common.{◌≡◌, ◌≢◌, ℕ, ◌+◌, ◌++◌, true, false, not, ◌&&◌, List, [], ◌∷◌, refl, subst, sym, ap, ◌∙◌, inl, inr, append-nil}
use Rattle.std.specs.Prelude.{◌==◌, if◌then◌else◌, Option, Some, None, Contains, find, flat_map, option_to_list}
use Rattle.std.specs.List.{AllByRecursion, list_all}
use Rattle.std.proofs.lemmas.Bool.{and_from, and_left, and_parts, and_right, cases_Bool, cond-true, cond-false, eq-eqb, eqb-false, eqb-true, ne_eqb}
use Rattle.std.proofs.lemmas.List.Elements.{Contains-append_cases, Contains-append_left, Contains-append_right}
use Rattle.ps_model.specs.Table.{Conditions}
use Rattle.ps_ways.specs.Ways.{asks, holds, meets}
use Rattle.ps_ways.specs.declared.way.Literal.{Literal}
use Rattle.ps_ways.specs.declared.way.Literal.TheVariants.{Any, Is, Not}
use Rattle.ps_ways.specs.declared.way.Way.{Way}
use Rattle.ps_why.specs.Guards.{Decides, IsOpen, LiteralIs, asked}
use Rattle.ps_why.specs.Reasons.{decisive, guards_are, literal_is, or_else, tried}
use Rattle.ps_why.specs.Telling.{IsAskOf}
use Rattle.ps_why.specs.declared.fact.Fact.{Fact}
use Rattle.ps_why.specs.declared.fact.Fact.TheVariants.{AskIs}
use Rattle.ps_why.proofs.Deciding.{all_asked, not_not, one_unmet}
use Rattle.ps_why.proofs.Guarding.{decides_here, decides_next, literal_by_more, open_by_more}
use Rattle.ps_why.proofs.Listing.{find_cases, find_none, find_some, first_in, in_cases, none_in, told_end, told_next}
use Rattle.ps_why.proofs.More.{decides_more}
use Rattle.ps_why.proofs.Taking.{next_by}

module _ (k : ℕ) (c : Conditions) where
  -- the facts of these literals
  abbrev literals_are : List Literal → List Fact
  literals_are ls = flat_map (literal_is k c) ls

  literal_told : (l : Literal) → LiteralIs (Contains (literal_is k c l)) k l (meets l c)
  literal_told Any = refl
  literal_told (Is a) = first_in (AskIs k a (asks a c)) []
  literal_told (Not a) = subst (λ b. Contains (AskIs k a (asks a c) ∷ []) (AskIs k a b)) (sym (not_not (asks a c))) (first_in (AskIs k a (asks a c)) [])

  all_told : (ls : List Literal) → list_all (λ l. meets l c) ls ≡ true → AllByRecursion (λ l. LiteralIs (Contains (literals_are ls)) k l true) ls
  all_told [] h = tt
  all_told (l ∷ ls) h =
      let both = and_parts (meets l c) (list_all (λ l. meets l c) ls) h in (
        subst (LiteralIs (Contains (literals_are (l ∷ ls))) k l) both.0
            (literal_by_more k (Contains (literal_is k c l)) (Contains (literals_are (l ∷ ls))) (Contains-append_left (literal_is k c l) (literals_are ls)) l (meets l c) (literal_told l)),
        open_by_more k (Contains (literals_are ls)) (Contains (literals_are (l ∷ ls))) (Contains-append_right (literal_is k c l) (literals_are ls)) ls (all_told ls both.1),
      )

  -- each of these facts is of something that is asked
  literals_only : (ls : List Literal) (f : Fact) → Contains (literals_are ls) f → IsAskOf k c f
  literals_only [] f h = none_in f h
  literals_only (Any ∷ ls) f h = literals_only ls f h
  literals_only (Is a ∷ ls) f h = elim (in_cases (AskIs k a (asks a c)) f (literals_are ls) h) [ inl is ↦ (a, sym is) | inr rest ↦ literals_only ls f rest ]
  literals_only (Not a ∷ ls) f h = elim (in_cases (AskIs k a (asks a c)) f (literals_are ls) h) [ inl is ↦ (a, sym is) | inr rest ↦ literals_only ls f rest ]

  -- what decides in one guard
  abbrev guard_is : Way → List Fact
  guard_is w = literals_are (decisive c w)

  pub guards_only : (ws : List Way) (f : Fact) → Contains (guards_are k c ws) f → IsAskOf k c f
  guards_only [] f h = none_in f h
  guards_only (w ∷ ws) f h = elim (Contains-append_cases (guard_is w) (guards_are k c ws) f h) [
    | inl here ↦ literals_only (decisive c w) f here
    | inr rest ↦ guards_only ws f rest
  ]

  -- ---- One guard.

  abbrev failing_of : Way → Option Literal
  failing_of w = find (λ l. not (meets l c)) (asked w)

  module _ (w : Way) where
    pub taken_all : failing_of w ≡ None → decisive c w ≡ asked w
    taken_all none = ap (λ o. or_else (option_to_list o) (asked w)) none

    pub passed_one : (l : Literal) → failing_of w ≡ Some l → decisive c w ≡ l ∷ []
    passed_one l one = ap (λ o. or_else (option_to_list o) (asked w)) one

    pub holds_all : list_all (λ l. meets l c) (asked w) ≡ true → holds w c ≡ true
    holds_all all = all_asked c w.first w.second w.third ∙ all

    pub opened : list_all (λ l. meets l c) (asked w) ≡ true → failing_of w ≡ None → IsOpen (Contains (guard_is w)) k w
    opened all none = subst (λ ls. AllByRecursion (λ l. LiteralIs (Contains (literals_are ls)) k l true) (asked w)) (sym (taken_all none)) (all_told (asked w) all)

    pub closed : (l : Literal) → failing_of w ≡ Some l → meets l c ≡ false → LiteralIs (Contains (guard_is w)) k l false
    closed l one off =
        subst (λ ls. LiteralIs (Contains (literals_are ls)) k l false) (sym (passed_one l one))
        (literal_by_more k (Contains (literal_is k c l)) (Contains (literals_are (l ∷ []))) (Contains-append_left (literal_is k c l) []) l false
        (subst (LiteralIs (Contains (literal_is k c l)) k l) off (literal_told l)))

    pub not_taken : (l : Literal) → Contains (asked w) l → meets l c ≡ false → holds w c ≡ false
    not_taken l among off = all_asked c w.first w.second w.third ∙ one_unmet c (asked w) l among off

  -- ---- All of them.

  module _ (q : ℕ) (w : Way) (ws : List Way) where
    pub tried_other : (w.state == q) ≡ false → tried c q (w ∷ ws) ≡ tried c q ws
    tried_other other = cond-false (w.state == q) (w ∷ (if holds w c then [] else tried c q ws)) (tried c q ws) other

    pub tried_taken : (w.state == q) ≡ true → holds w c ≡ true → tried c q (w ∷ ws) ≡ w ∷ []
    tried_taken of on =
        cond-true (w.state == q) (w ∷ (if holds w c then [] else tried c q ws)) (tried c q ws) of
        ∙ ap (λ rest. w ∷ rest) (cond-true (holds w c) [] (tried c q ws) on)

    pub tried_passed : (w.state == q) ≡ true → holds w c ≡ false → tried c q (w ∷ ws) ≡ w ∷ tried c q ws
    tried_passed of off =
        cond-true (w.state == q) (w ∷ (if holds w c then [] else tried c q ws)) (tried c q ws) of
        ∙ ap (λ rest. w ∷ rest) (cond-false (holds w c) [] (tried c q ws) off)

    pub next_passed : (w.state == q && holds w c) ≡ false → next_by q (w ∷ ws) c ≡ next_by q ws c
    next_passed off = cond-false (w.state == q && holds w c) w.next (next_by q ws c) off

    pub next_taken : (w.state == q) ≡ true → holds w c ≡ true → next_by q (w ∷ ws) c ≡ w.next
    next_taken of on = cond-true (w.state == q && holds w c) w.next (next_by q ws c) (and_from (w.state == q) (holds w c) of on)

  -- what decides, by equal guards and an equal state
  as_said : (q q' q'' : ℕ) (ws tried' tried'' : List Way) → tried' ≡ tried'' → q' ≡ q'' → Decides (Contains (guards_are k c tried'')) k ws q q'' →
      Decides (Contains (guards_are k c tried')) k ws q q'
  as_said q q' q'' ws tried' tried'' same is h =
      subst (λ t. Decides (Contains (guards_are k c t)) k ws q q') (sym same) (subst (λ n. Decides (Contains (guards_are k c tried'')) k ws q n) (sym is) h)

  pub decided : (q : ℕ) (ws : List Way) → Decides (Contains (guards_are k c (tried c q ws))) k ws q (next_by q ws c)
  decided q [] = inr (tt, refl)
  decided q (w ∷ ws) = elim (cases_Bool (w.state == q)) [
    | inr other ↦
        as_said q (next_by q (w ∷ ws) c) (next_by q ws c) (w ∷ ws) (tried c q (w ∷ ws)) (tried c q ws) (tried_other q w ws other)
        (next_passed q w ws (and_left (w.state == q) (holds w c) other))
        (decides_next (Contains (guards_are k c (tried c q ws))) k q w ws (next_by q ws c) (inl (eqb-false w.state q other)) (decided q ws))
    | inl of ↦ elim (find_cases (λ l. meets l c) (asked w)) [
      | inl all ↦
          let on = holds_all w all.1 in
          as_said q (next_by q (w ∷ ws) c) w.next (w ∷ ws) (tried c q (w ∷ ws)) (w ∷ []) (tried_taken q w ws of on) (next_taken q w ws of on)
          (decides_here (Contains (guards_are k c (w ∷ []))) k q w ws (eqb-true w.state q of)
          (open_by_more k (Contains (guard_is w)) (Contains (guards_are k c (w ∷ []))) (Contains-append_left (guard_is w) []) (asked w) (opened w all.1 all.0)))
      | inr one ↦
          let off = not_taken w one.0 one.2 one.3 in
          let rest = tried c q ws in
          as_said q (next_by q (w ∷ ws) c) (next_by q ws c) (w ∷ ws) (tried c q (w ∷ ws)) (w ∷ rest) (tried_passed q w ws of off)
          (next_passed q w ws (and_right (w.state == q) (holds w c) off))
          (decides_next (Contains (guards_are k c (w ∷ rest))) k q w ws (next_by q ws c)
          (inr (
            one.0,
            one.2,
            literal_by_more k (Contains (guard_is w)) (Contains (guards_are k c (w ∷ rest))) (Contains-append_left (guard_is w) (guards_are k c rest)) one.0 false
                (closed w one.0 one.1 one.3),
          ))
          (decides_more (Contains (guards_are k c rest)) (Contains (guards_are k c (w ∷ rest))) (Contains-append_right (guard_is w) (guards_are k c rest)) k ws q (next_by q ws c)
          (decided q ws)))
    ]
  ]

  -- ---- One guard after another, from a guard on.

  -- what is told of the guards of a state
  abbrev pub told_of : (q : ℕ) → List Way → List Fact
  told_of q ws = guards_are k c (tried c q ws)

  module _ (q : ℕ) (w : Way) (rest all : List Way) (at : all ≡ w ∷ rest) where
    pub other_next : w.state ≢ q → ((told end : List Fact) → told ++ told_of q all ≡ end → told ++ told_of q rest ≡ end) × (next_by q all c ≡ next_by q rest c)
    other_next other =
        let no = ne_eqb w.state q other in (
          λ told end h. sym (ap (λ ws. told ++ guards_are k c ws) (ap (tried c q) at ∙ tried_other q w rest no)) ∙ h,
          ap (λ ws. next_by q ws c) at ∙ next_passed q w rest (and_left (w.state == q) (holds w c) no),
        )

    module _ (of : w.state ≡ q) where
      pub passed_next : (l : Literal) → failing_of w ≡ Some l →
          ((told told' end : List Fact) → told ++ told_of q all ≡ end → told' ≡ told ++ literal_is k c l → told' ++ told_of q rest ≡ end)
          × (next_by q all c ≡ next_by q rest c)
      passed_next l one =
          let yes = eq-eqb w.state q of in
          let among = find_some (λ l. meets l c) (asked w) l one in
          let off = not_taken w l among.0 among.1 in
          let said : guard_is w ≡ literal_is k c l = ap literals_are (passed_one w l one) ∙ append-nil (literal_is k c l) in (
            λ told told' end h is. told_next guard_is w (tried c q all) (tried c q rest) told told' end (ap (tried c q) at ∙ tried_passed q w rest yes off) h (is ∙ ap (λ l. told ++ l) (sym said)),
            ap (λ ws. next_by q ws c) at ∙ next_passed q w rest (and_right (w.state == q) (holds w c) off),
          )

      pub taken_next : failing_of w ≡ None →
          ((told told' end : List Fact) → told ++ told_of q all ≡ end → told' ≡ told ++ flat_map (literal_is k c) (asked w) → told' ≡ end) × (next_by q all c ≡ w.next)
      taken_next none =
          let yes = eq-eqb w.state q of in
          let on = holds_all w (find_none (λ l. meets l c) (asked w) none) in
          let said : guard_is w ≡ literals_are (asked w) = ap literals_are (taken_all w none) in (
            λ told told' end h is. told_end guard_is [] told' end refl
                (told_next guard_is w (tried c q all) [] told told' end (ap (tried c q) at ∙ tried_taken q w rest yes on) h (is ∙ ap (λ l. told ++ l) (sym said))),
            ap (λ ws. next_by q ws c) at ∙ next_taken q w rest yes on,
          )

  -- at the end
  pub told_none : (q : ℕ) (all : List Way) → all ≡ [] → (told end : List Fact) → told ++ told_of q all ≡ end → told ≡ end
  told_none q all none told end h = told_end guard_is (tried c q all) told end (ap (tried c q) none) h

  -- what was told decides
  pub decides_so : (q q' : ℕ) (all ways : List Way) (old new : List Fact) → all ≡ ways → new ≡ old ++ told_of q all → next_by q all c ≡ q' → Decides (Contains new) k ways q q'
  decides_so q q' all ways old new same told next =
      subst (λ z. Decides (Contains new) k z q q') same
      (subst (λ n. Decides (Contains new) k all q n) next
      (decides_more (Contains (told_of q all)) (Contains new) (λ f h. subst (λ l. Contains l f) (sym told) (Contains-append_right old (told_of q all) f h)) k all q (next_by q all c)
      (decided q all)))
