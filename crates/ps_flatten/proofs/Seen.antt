-- Function blocks as they are kept, by their places and by their names.
use Rattle.std.proofs.Common.{Bor, ◌≡◌, ℕ, zero, suc, ◌+◌, ◌<◌, ◌≤◌, Bool, List, [], ◌∷◌, ◌++◌, Option, None, Some, cond, length, map, nat_lt, get_or, position, slice_get, take, refl, sym, ap, subst, ◌∙◌, append_assoc, arith}
use Rattle.std.specs.Prelude.{not, is_some, slice_index_or, IfSome}
use Rattle.std.proofs.lemmas.Bool.Decides.{nat_tests}
use Rattle.std.specs.List.{find, position_or_len, AllByRecursion}
use Rattle.std.specs.Option.{option_map, option_copied}
use Rattle.std.proofs.lemmas.List.{append-nil, take_all}
use Rattle.std.proofs.lemmas.Option.{slice_get_past, slice_get_read}
use Rattle.ps_parser.specs.declared.name.Name.{Name}
use Rattle.ps_derived.specs.Bodies.{same}
use Rattle.ps_derived.specs.Counting.{item_at}
use Rattle.ps_derived.specs.Flat.{FlatBlock, block_named}
use Rattle.ps_derived.proofs.Lookups.{found_item}
use Rattle.ps_flatten.specs.declared.laid.Laid.{Laid}
use Rattle.ps_flatten.specs.Laying.{block_seen, seen_after, blocks_seen, KnowsInputs, KnowInputs}

-- ---- by their places

one_of : {X : Type 0} (x y : X) → Some x ≡ Some y → x ≡ y
one_of x y e = cc

pub seen_at : (before : List FlatBlock) (ls : List Laid) (k : ℕ) (l : Laid) → slice_get ls k ≡ Some l →
    slice_get (seen_after before ls) k ≡ Some (block_seen (before ++ take k (seen_after before ls)) l)
seen_at before [] k l is = cc
seen_at before (m ∷ ls) zero l is = (λ i. Some (block_seen (sym (append-nil before) i) (one_of m l is i)))
seen_at before (m ∷ ls) (suc k) l is =
    let b = block_seen before m in
    seen_at (before ++ b ∷ []) ls k l is ∙ ap (λ p. Some (block_seen p l)) (append_assoc before (b ∷ []) (take k (seen_after (before ++ b ∷ []) ls)))

-- what is kept at a place, if anything, stands there
seen_maybe : (before : List FlatBlock) (ls : List Laid) (k : ℕ) → option_map (block_seen (before ++ take k (seen_after before ls))) (slice_get ls k) ≡ slice_get (seen_after before ls) k
seen_maybe before [] k = refl
seen_maybe before (l ∷ ls) zero = ap (λ p. Some (block_seen p l)) (append-nil before)
seen_maybe before (l ∷ ls) (suc k) =
    let b = block_seen before l in
    ap (λ p. option_map (block_seen p) (slice_get ls k)) (sym (append_assoc before (b ∷ []) (take k (seen_after (before ++ b ∷ []) ls)))) ∙ seen_maybe (before ++ b ∷ []) ls k

taken : {X : Type 0} (n : ℕ) (xs : List X) (k : ℕ) → k < n → slice_get (take n xs) k ≡ slice_get xs k
taken zero xs k h = absurd (omega (arith, h))
taken (suc n) [] k h = refl
taken (suc n) (x ∷ xs) zero h = refl
taken (suc n) (x ∷ xs) (suc k) h = taken n xs k (omega (arith, h))

taken_past : {X : Type 0} (n : ℕ) (xs : List X) (k : ℕ) → n ≤ k → slice_get (take n xs) k ≡ None
taken_past zero xs k h = refl
taken_past (suc n) [] k h = refl
taken_past (suc n) (x ∷ xs) zero h = absurd (omega (arith, h))
taken_past (suc n) (x ∷ xs) (suc k) h = taken_past n xs k (omega (arith, h))

-- the function block at a place, where this is one of the first
pub before_seen : (ls : List Laid) (limit k : ℕ) (o : Option Laid) → o ≡ slice_get ls k → k < limit → option_map (block_seen (take k (blocks_seen ls))) o ≡ slice_get (take limit (blocks_seen ls)) k
before_seen ls limit k o is lt = ap (option_map (block_seen (take k (blocks_seen ls)))) is ∙ seen_maybe [] ls k ∙ sym (taken limit (blocks_seen ls) k lt)

pub before_none : (ls : List Laid) (limit k : ℕ) → limit ≤ k → None ≡ slice_get (take limit (blocks_seen ls)) k
before_none ls limit k past = sym (taken_past limit (blocks_seen ls) k past)

-- the item of a list that is the same
pub at_place : (items ls : List Laid) (k : ℕ) (l : Laid) → items ≡ ls → k < length items → l ≡ get_or items k l → slice_get ls k ≡ Some l
at_place items ls k l same lt is = subst (λ x. slice_get x k ≡ Some l) same (slice_get_read items (length items) k l refl lt is)

-- its inputs are those that are declared
pub knows_at : (ls : List Laid) (k : ℕ) (l : Laid) → KnowInputs ls → slice_get ls k ≡ Some l → KnowsInputs l
knows_at [] k l h is = cc
knows_at (m ∷ ls) zero l h is = subst KnowsInputs (one_of m l is) h.0
knows_at (m ∷ ls) (suc k) l h is = knows_at ls k l h.1 is

pub seen_length : (before : List FlatBlock) (ls : List Laid) → length (seen_after before ls) ≡ length ls
seen_length before [] = refl
seen_length before (l ∷ ls) = ap suc (seen_length (before ++ block_seen before l ∷ []) ls)

-- one more at the end
pub seen_push : (before : List FlatBlock) (ls : List Laid) (l : Laid) → seen_after before (ls ++ l ∷ []) ≡ seen_after before ls ++ block_seen (before ++ seen_after before ls) l ∷ []
seen_push before [] l = ap (λ p. block_seen p l ∷ []) (sym (append-nil before))
seen_push before (m ∷ ls) l =
    let b = block_seen before m in
    let rest = seen_after (before ++ b ∷ []) ls in
    ap (λ x. b ∷ x) (seen_push (before ++ b ∷ []) ls l ∙ ap (λ p. rest ++ block_seen p l ∷ []) (append_assoc before (b ∷ []) rest))

-- ---- by their names

place_alike : (n : Name) (before : List FlatBlock) (ls : List Laid) → position_or_len (λ b. same n b.name) (seen_after before ls) ≡ position_or_len (λ l. same n l.interface.name) ls
place_alike n before [] = refl
place_alike n before (l ∷ ls) = ap (λ m. cond (not (same n l.interface.name)) (1 + m) 0) (place_alike n (before ++ block_seen before l ∷ []) ls)

pub position_alike : (n : Name) (ls : List Laid) → position (λ b. same n b.name) (blocks_seen ls) ≡ position (λ l. same n l.interface.name) ls
position_alike n ls = (λ i. cond (nat_lt (place_alike n [] ls i) (seen_length [] ls i)) (Some (place_alike n [] ls i)) None)

-- the first of them with a name stands at the place of the first that is kept with it
pub named_at : (n : Name) (ls : List Laid) (o : Option ℕ) → o ≡ position (λ l. same n l.interface.name) ls → block_named (blocks_seen ls) n ≡ item_at (blocks_seen ls) o
named_at n ls o at = found_item (λ b. same n b.name) (blocks_seen ls) ∙ ap (item_at (blocks_seen ls)) (position_alike n ls ∙ sym at)

-- the same where the list that the place is of is seen as this one
pub named_found : (n : Name) (items ls : List Laid) (o : Option ℕ) → items ≡ ls → o ≡ position (λ l. same n l.interface.name) items → block_named (blocks_seen ls) n ≡ item_at (blocks_seen ls) o
named_found n items ls o is at = named_at n ls o (at ∙ ap (position (λ (l : Laid). same n l.interface.name)) is)

-- all of them are the first so many
pub all_taken : (ls : List Laid) (n k : ℕ) → n ≡ length ls → slice_get (take n (blocks_seen ls)) k ≡ slice_get (blocks_seen ls) k
all_taken ls n k h =
    let long : length (blocks_seen ls) ≤ n = omega (arith, h, seen_length [] ls) in
    ap (λ bs. slice_get bs k) (take_all n (blocks_seen ls) long)

-- what a slice gives at a place
pub got : (xs : List Laid) (k : ℕ) (r : Option (Bor Laid)) → is_some r ≡ nat_lt k (length xs) → IfSome r (λ x. x.now ≡ slice_index_or xs k x.now) → option_copied r ≡ slice_get xs k
got xs k None within is = sym (slice_get_past xs k (grind (arith, nat_tests)))
got xs k (Some x) within is = sym (slice_get_read xs (length xs) k x.now refl (grind (arith, nat_tests)) is)
