-- Lists of parts: when they are the same, and what they are as one.
use Rattle.std.proofs.Common.{◌≡◌, ◌≢◌, suc, ◌<◌, Bool, true, false, List, [], ◌∷◌, ◌++◌, map, length, get_or, ap, sym, ◌∙◌, refl, ⊎_elim, arith, append_assoc}
use Rattle.std.specs.Prelude.{◌||◌, not, flat_map}
use Rattle.std.specs.List.{list_any}
use Rattle.std.proofs.lemmas.Bool.{cases_Bool, and_right, or_right, or_from, true≢false, false≢true, cond-true, cond-false}
use Rattle.std.proofs.lemmas.List.{map-append}
use Rattle.indexmap.specs.IndexSet.{insert_key}
use Rattle.ps_demand.specs.declared.join.Join.{Join}
use Rattle.ps_demand.specs.declared.join.Join.TheVariants.{And}
use Rattle.ps_demand.specs.Requirement.{Requirement, requirements, parts, group, same, same_parts}
use Rattle.ps_demand.specs.Passes.{slim_together}
use Rattle.ps_demand.specs.Slim.{neutral, parts_within, telling, gathered, joined}

-- more than one part is a group
pub gathered_many : (join : Join) (ds : List Requirement) → 1 < length ds → gathered join ds ≡ group join (requirements ds)
gathered_many join [] h = absurd (omega arith)
gathered_many join (d ∷ []) h = absurd (omega arith)
gathered_many join (d ∷ e ∷ ds) h = refl

false_from_not : (b : Bool) → not b ≡ true → b ≡ false
false_from_not true h = absurd (false≢true h)
false_from_not false h = refl

true_from_not : (b : Bool) → not b ≡ false → b ≡ true
true_from_not true h = refl
true_from_not false h = absurd (true≢false h)

-- a part that tells is kept
pub telling_more : (join : Join) (d : Requirement) (earlier ds : List Requirement) → not (same d (neutral join) || list_any (same d) earlier) ≡ true →
    earlier ++ telling join earlier (d ∷ ds) ≡ (earlier ++ d ∷ []) ++ telling join (earlier ++ d ∷ []) ds
telling_more join d earlier ds h =
    let silent = same d (neutral join) || list_any (same d) earlier in
    ap (λ es. earlier ++ es) (cond-false silent (telling join earlier ds) (d ∷ telling join (earlier ++ d ∷ []) ds) (false_from_not silent h))
    ∙ sym (append_assoc earlier (d ∷ []) (telling join (earlier ++ d ∷ []) ds))

-- and one that doesn't is left out
pub telling_less : (join : Join) (d : Requirement) (earlier ds : List Requirement) → not (same d (neutral join) || list_any (same d) earlier) ≡ false →
    telling join earlier (d ∷ ds) ≡ telling join earlier ds
telling_less join d earlier ds h =
    let silent = same d (neutral join) || list_any (same d) earlier in
    cond-true silent (telling join earlier ds) (d ∷ telling join (earlier ++ d ∷ []) ds) (true_from_not silent h)

-- a test of what is made of elements is a test of the elements
any_made : {X : Type 0} (f : X → Requirement) (p : Requirement → Bool) (xs : List X) → list_any (λ x. p (f x)) xs ≡ list_any p (map f xs)
any_made f p [] = refl
any_made f p (x ∷ xs) = ap (λ b. p (f x) || b) (any_made f p xs)

-- The parts that told so far are the keys of a set, of which each stands for a part.
module _ {X : Type 0} (f : X → Requirement) (join : Join) (d : X) (keys rest : List X) where
  abbrev with_rest : List X → List X → List Requirement
  with_rest told left = map f told ++ telling join (map f told) (map f left)

  -- a part that says something is inserted
  pub inserted : same (f d) (neutral join) ≡ false →
      with_rest (insert_key (λ a b. same (f a) (f b)) keys d) rest ≡ with_rest keys (d ∷ rest)
  inserted speaks =
      let among = list_any (λ b. same (f d) (f b)) keys in
      let nothing = same (f d) (neutral join) in
      let repeated = list_any (same (f d)) (map f keys) in
      let decided : among ≡ repeated = any_made f (same (f d)) keys in
      ⊎_elim
      (λ yes.
      ap (λ ks. with_rest ks rest) (cond-true among keys (keys ++ d ∷ []) yes)
      ∙ ap (λ ds. map f keys ++ ds) (sym (telling_less join (f d) (map f keys) (map f rest) (ap not (or_right nothing repeated (sym decided ∙ yes))))))
      (λ no.
      ap (λ ks. with_rest ks rest) (cond-false among keys (keys ++ d ∷ []) no)
      ∙ ap (λ ds. ds ++ telling join ds (map f rest)) (map-append f keys (d ∷ []))
      ∙ sym (telling_more join (f d) (map f keys) (map f rest) (ap not (or_from nothing repeated speaks (sym decided ∙ no)))))
      (cases_Bool among)

-- the parts of a list are its elements
pub parts_of_list : (ds : List Requirement) → parts (requirements ds) ≡ ds
parts_of_list [] = refl
parts_of_list (d ∷ ds) = ap (λ es. d ∷ es) (parts_of_list ds)

-- with one part more, what is joined so far and what is left make the same whole
pub within_more : (join : Join) (so_far more ds left whole : List Requirement) (d e : Requirement) → more ≡ so_far ++ parts_within join d → d ≡ e →
    left ≡ e ∷ ds → so_far ++ flat_map (parts_within join) left ≡ whole → more ++ flat_map (parts_within join) ds ≡ whole
within_more join so_far more ds left whole d e added is next before =
    ap (λ es. es ++ flat_map (parts_within join) ds) (added ∙ ap (λ x. so_far ++ parts_within join x) is)
    ∙ append_assoc so_far (parts_within join e) (flat_map (parts_within join) ds)
    ∙ ap (λ es. so_far ++ flat_map (parts_within join) es) (sym next) ∙ before

-- one part stands alone
pub together_alone : {X : Type 0} (f : X → Requirement) (xs : List X) (x : X) → length xs ≡ 1 → f (get_or xs 0 x) ≡ slim_together (map f xs)
together_alone f [] x h = absurd (omega arith)
together_alone f (y ∷ []) x h = refl
together_alone f (y ∷ z ∷ xs) x h = absurd (omega arith)

-- parts other than one are joined
pub together_joined : {X : Type 0} (f : X → Requirement) (xs : List X) → length xs ≢ 1 → joined And (map f xs) ≡ slim_together (map f xs)
together_joined f [] h = refl
together_joined f (x ∷ []) h = absurd (h refl)
together_joined f (x ∷ y ∷ xs) h = refl
