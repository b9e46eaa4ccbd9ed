-- What a demand gives to a hasher, and that demands which are the same give the same: so the parts that are repeated
-- are found by their hashes.
use Rattle.std.proofs.Common.{◌≡◌, true, List, [], ◌++◌, ap, ◌∙◌, refl, subst}
use Rattle.std.specs.Prelude.{ℕ}
use Rattle.std.specs.Cmp.{IsEquivalence, both_ways}
use Rattle.std.specs.Hash.{u8, u16}
use Rattle.std.proofs.lemmas.Bool.{false≢true, and_parts, and_from, eqb-true, eq-eqb}
use Rattle.ps_demand.specs.declared.join.Join.TheVariants.{And, Or}
use Rattle.ps_demand.specs.Requirement.{Requirement, Requirements, always, never, now, before, not_now, not_before}
use Rattle.ps_demand.specs.Requirement.{group, no_part, part, same, same_parts}

-- what a requirement gives to a hasher: a number of its sort, and that of its signal or what each part gives
abbrev mutual
  pub hashed : Requirement → List (List ℕ)
  hashed always = u8 0
  hashed never = u8 1
  hashed (now s) = u8 2 ++ u16 s
  hashed (before s) = u8 3 ++ u16 s
  hashed (not_now s) = u8 4 ++ u16 s
  hashed (not_before s) = u8 5 ++ u16 s
  hashed (group And ds) = u8 6 ++ hashed_parts ds
  hashed (group Or ds) = u8 7 ++ hashed_parts ds

  -- what parts give, one after another
  pub hashed_parts : Requirements → List (List ℕ)
  hashed_parts no_part = []
  hashed_parts (part d ds) = hashed d ++ hashed_parts ds

-- requirements that are the same are equal
mutual
  pub same_equal : (a b : Requirement) → same a b ≡ true → a ≡ b
  same_equal always always h = refl
  same_equal never never h = refl
  same_equal (now s) (now t) h = ap now (eqb-true s t h)
  same_equal (before s) (before t) h = ap before (eqb-true s t h)
  same_equal (not_now s) (not_now t) h = ap not_now (eqb-true s t h)
  same_equal (not_before s) (not_before t) h = ap not_before (eqb-true s t h)
  same_equal (group And ds) (group And es) h = ap (group And) (same_parts_equal ds es h)
  same_equal (group Or ds) (group Or es) h = ap (group Or) (same_parts_equal ds es h)
  same_equal _ _ h = absurd (false≢true h)

  same_parts_equal : (ds es : Requirements) → same_parts ds es ≡ true → ds ≡ es
  same_parts_equal no_part no_part h = refl
  same_parts_equal (part d ds) (part e es) h =
      let both = and_parts (same d e) (same_parts ds es) h in
      ap (λ x. part x ds) (same_equal d e both.0) ∙ ap (part e) (same_parts_equal ds es both.1)
  same_parts_equal _ _ h = absurd (false≢true h)

-- each requirement is the same as itself
mutual
  same_self : (d : Requirement) → same d d ≡ true
  same_self always = refl
  same_self never = refl
  same_self (now s) = eq-eqb s s refl
  same_self (before s) = eq-eqb s s refl
  same_self (not_now s) = eq-eqb s s refl
  same_self (not_before s) = eq-eqb s s refl
  same_self (group And ds) = same_parts_self ds
  same_self (group Or ds) = same_parts_self ds

  same_parts_self : (ds : Requirements) → same_parts ds ds ≡ true
  same_parts_self no_part = refl
  same_parts_self (part d ds) = and_from (same d d) (same_parts ds ds) (same_self d) (same_parts_self ds)

-- what is the same as another is so the other way round
same_turned : (a b : Requirement) → same a b ≡ true → same b a ≡ true
same_turned a b h = subst (λ x. same x a ≡ true) (same_equal a b h) (same_self a)

-- to be the same is an equivalence
pub same_equivalence : IsEquivalence same
same_equivalence = record {
  refl = same_self;
  symm = λ a b. both_ways (same a b) (same b a) (same_turned a b) (same_turned b a);
  congr = λ a b c h. ap (λ x. same x c) (same_equal a b h);
}

-- requirements that are the same give the same to a hasher
pub same_hashed : (a b : Requirement) → same a b ≡ true → hashed a ≡ hashed b
same_hashed a b h = ap hashed (same_equal a b h)
