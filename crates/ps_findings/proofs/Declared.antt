-- The first of several names that is a word.
use Rattle.std.proofs.Common.{◌≡◌, ℕ, ◌+◌, ◌<◌, ◌∙◌, Bool, true, false, cond, List, [], ◌∷◌, ◌++◌, Option, Some, None, add-one, ap, drop, drop-cons}
use Rattle.std.proofs.Common.{flat_map, get_or, is_some, length, refl, sym}
use Rattle.ps_base.specs.LetterCase.{is_same_name}
use Rattle.ps_base.specs.declared.failing.Place.{Place}
use Rattle.ps_parser.specs.declared.name.Name.{Name}
use Rattle.ps_findings.specs.Places.{declared_at}

-- the first of two places
first_of : Option Place → Option Place → Option Place
first_of None other = other
first_of (Some place) other = Some place

-- the first of two is the first, if there is one
some_first : (p q : Option Place) → is_some p ≡ true → p ≡ first_of p q
unfolding first_of
some_first (Some p) q some = refl
some_first None q some = absurd (cc)

-- and the second, if there is none
none_first : (p q : Option Place) → is_some p ≡ false → q ≡ first_of p q
unfolding first_of
none_first None q none = refl
none_first (Some p) q none = absurd (cc)

module _ (word : List ℕ) where
  -- among the names from one on
  from_one : (names : List Name) (i : ℕ) (name : Name) → i < length names → name ≡ get_or names i name →
      declared_at word (drop i names) ≡ cond (is_same_name name.text word) (Some name.place) (declared_at word (drop (i + 1) names))
  from_one names i name within at =
      ap (declared_at word) (drop-cons names i name within)
      ∙ ap (λ (n : ℕ). declared_at word (get_or names i name ∷ drop n names)) (sym (add-one i))
      ∙ ap (λ (n : Name). cond (is_same_name n.text word) (Some n.place) (declared_at word (drop (i + 1) names))) (sym at)

  -- it is the one
  pub is_here : (names : List Name) (i : ℕ) (name : Name) → i < length names → name ≡ get_or names i name → is_same_name name.text word ≡ true →
      declared_at word (drop i names) ≡ declared_at word names → Some name.place ≡ declared_at word names
  is_here names i name within at same so_far =
      sym (from_one names i name within at ∙ ap (λ (b : Bool). cond b (Some name.place) (declared_at word (drop (i + 1) names))) same) ∙ so_far

  -- it is not
  pub is_behind : (names : List Name) (i : ℕ) (name : Name) → i < length names → name ≡ get_or names i name → is_same_name name.text word ≡ false →
      declared_at word (drop i names) ≡ declared_at word names → declared_at word (drop (i + 1) names) ≡ declared_at word names
  is_behind names i name within at other so_far =
      sym (from_one names i name within at ∙ ap (λ (b : Bool). cond b (Some name.place) (declared_at word (drop (i + 1) names))) other) ∙ so_far

  -- among names, and then among others
  in_both : (names others : List Name) → declared_at word (names ++ others) ≡ first_of (declared_at word names) (declared_at word others)
  unfolding first_of
  in_both [] others = refl
  in_both (name ∷ names) others =
      ap (λ t. cond (is_same_name name.text word) (Some name.place) t) (in_both names others)
      ∙ elim (is_same_name name.text word) as (λ b. cond b (Some name.place) (first_of (declared_at word names) (declared_at word others)) ≡ first_of (cond b (Some name.place) (declared_at word names)) (declared_at word others))
      [ true ↦ refl | false ↦ refl ]

  module _ {X : Type 0} (f : X → List Name) (xs : List X) (i : ℕ) (x : X) (place : Option Place) where
    -- among the names of all from one on
    from_part : i < length xs → x ≡ get_or xs i x → place ≡ declared_at word (f x) →
        declared_at word (flat_map f (drop i xs)) ≡ first_of place (declared_at word (flat_map f (drop (i + 1) xs)))
    from_part within at is =
        ap (λ t. declared_at word (flat_map f t)) (drop-cons xs i x within)
        ∙ ap (λ (n : ℕ). declared_at word (flat_map f (get_or xs i x ∷ drop n xs))) (sym (add-one i))
        ∙ ap (λ y. declared_at word (f y ++ flat_map f (drop (i + 1) xs))) (sym at)
        ∙ in_both (f x) (flat_map f (drop (i + 1) xs))
        ∙ ap (λ p. first_of p (declared_at word (flat_map f (drop (i + 1) xs)))) (sym is)

    -- it is the one
    pub part_has : i < length xs → x ≡ get_or xs i x → place ≡ declared_at word (f x) → is_some place ≡ true →
        declared_at word (flat_map f (drop i xs)) ≡ declared_at word (flat_map f xs) → place ≡ declared_at word (flat_map f xs)
    part_has within at is some so_far = some_first place (declared_at word (flat_map f (drop (i + 1) xs))) some ∙ sym (from_part within at is) ∙ so_far

    -- it is not
    pub part_has_none : i < length xs → x ≡ get_or xs i x → place ≡ declared_at word (f x) → is_some place ≡ false →
        declared_at word (flat_map f (drop i xs)) ≡ declared_at word (flat_map f xs) →
        declared_at word (flat_map f (drop (i + 1) xs)) ≡ declared_at word (flat_map f xs)
    part_has_none within at is none so_far = none_first place (declared_at word (flat_map f (drop (i + 1) xs))) none ∙ sym (from_part within at is) ∙ so_far
